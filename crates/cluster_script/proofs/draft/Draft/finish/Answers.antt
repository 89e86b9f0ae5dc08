use Rattle.std.proofs.Common.{◌≡◌, length, sym, ap, ◌∙◌, true, false}
use Rattle.std.proofs.lemmas.List.{length-map}
use Rattle.script_grammar.specs.Reading.{at_line}
use Rattle.script_model.specs.Script.{member_of_entry, members_in}
use Rattle.cluster_script.proofs.Finishing.{finished-IsScript, finished-is}
use Rattle.cluster_script.proofs.draft.Draft.finish.Goals as goal

clash : {A : Type 0} → ◌≡◌ true false → A
clash e = cc

pub new-head-requires : goal.new-head-requires
new-head-requires c =
    let some : length (members_in c.self.inside.members.entries) ≡ 0 → ⊥ = λ e.
    clash (sym (c.is_empty.ensures.1 (sym (length-map c.self.inside.members.entries member_of_entry) ∙ e))
    ∙ c.if-is_empty.false) in
    record {
      configured = c.in_ok-config.ensures.configured;
      head = rw (c.base_or_default.ensures, c.in_ok-config.ensures.value)
          (finished-IsScript c.self.inside.cluster c.in-Some.cluster c.self.inside.config c.self.inside.base
          (members_in c.self.inside.members.entries) c.self.inside.body.items c.in-Some.is some
          (rw (← c.self.view_is) at c.requires)).head;
    }

pub new-requires : goal.new-requires
new-requires c =
    let some : length (members_in c.self.inside.members.entries) ≡ 0 → ⊥ = λ e.
    clash (sym (c.is_empty.ensures.1 (sym (length-map c.self.inside.members.entries member_of_entry) ∙ e))
    ∙ c.if-is_empty.false) in
    rw (c.new-head.ensures, c.base_or_default.ensures, c.in_ok-config.ensures.value)
    (finished-IsScript c.self.inside.cluster c.in-Some.cluster c.self.inside.config c.self.inside.base
    (members_in c.self.inside.members.entries) c.self.inside.body.items c.in-Some.is some
    (rw (← c.self.view_is) at c.requires))

pub returns : goal.returns
returns c =
    let some : length (members_in c.self.inside.members.entries) ≡ 0 → ⊥ = λ e.
    clash (sym (c.is_empty.ensures.1 (sym (length-map c.self.inside.members.entries member_of_entry) ∙ e))
    ∙ c.if-is_empty.false) in
    rw (← c.self.view_is, c.new.ensures, c.new-head.ensures, c.base_or_default.ensures, c.in_ok-config.ensures.value)
    (ap (at_line c.args.end)
    (finished-is c.self.inside.cluster c.in-Some.cluster c.self.inside.config c.self.inside.base
    (members_in c.self.inside.members.entries) c.self.inside.body.items c.in-Some.is some))
