use Rattle.std.proofs.Common.{◌≡◌, Option, Some, None, option_map, slice_get, ◌∙◌, ap, sym}
use Rattle.std.proofs.lemmas.Option.{slice_get-map}
use Rattle.pat_base.specs.declared.name.Name.{Name}
use Rattle.script_model.specs.Script.{MemberText}
use Rattle.member_options.specs.declared.member_option.MemberOptions.{MemberOptions}
use Rattle.run_model.specs.Watches.{declared_watch}
use Rattle.run_printing.proofs.watches.watch_at.Goals as goal

-- a member of this name and these options is watched as they say
watched : (found : Option MemberText) (name : Name) (options : MemberOptions)
    → option_map (λ (m : MemberText). m.name) found ≡ Some name
    → option_map (λ (m : MemberText). m.options) found ≡ Some options
    → option_map declared_watch found ≡ Some (declared_watch (record { name = name; options = options }))
watched None name options named said = cc
watched (Some member) name options named said =
    let same_name : member.name ≡ name = cc in
    let same_options : member.options ≡ options = cc in
    λ i. Some (declared_watch (record { name = same_name i; options = same_options i }))

pub returns : goal.returns
returns c =
    let members = c.args.head.now.members in
    slice_get-map declared_watch members c.args.place
    ∙ watched (slice_get members c.args.place) c.in-Some-Some.name c.in-Some-Some.options
    (sym (slice_get-map (λ (m : MemberText). m.name) members c.args.place) ∙ sym c.member.ensures.value
    ∙ c.in-Some-Some.is-0)
    (sym c.options.ensures.value ∙ c.in-Some-Some.is-1)
    ∙ ap Some (sym c.declared_watch.ensures)
