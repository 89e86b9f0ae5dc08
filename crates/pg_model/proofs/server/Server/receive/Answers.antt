use Rattle.std.proofs.Common.{Result, Ok, Err, IfOk, ap, sym, ◌∙◌}
use Rattle.pg_model.specs.Facts.{ServerFacts, entries_of}
use Rattle.pg_model.proofs.News.{received-taken, taken-current}
use Rattle.pg_model.proofs.server.Server.receive.Goals as goal

both : {X E : Type 0} (r : Result X E) (P Q R : X → Type 0) → ((x : X) → P x → Q x → R x) → IfOk r P
    → IfOk r Q → IfOk r R
both (Ok x) P Q R each p q = each x p q
both (Err e) P Q R each p q = tt

pub returns-then-current-clause-ok : goal.returns-then-current-clause-ok
returns-then-current-clause-ok c =
    let mine = ap (λ (s : ServerFacts). entries_of s.log) c.self.view_is in
    let theirs = ap entries_of (c.wal-from.ensures ∙ ap (λ (s : ServerFacts). s.log) c.upstream.view_is) in
    both c.receive_entries.result _ _ _
    (λ count counted logged.
    ap (λ (s : ServerFacts). record s { log = c.receive_entries.new.log }) c.self.view_is
    ∙ ap (λ log. record c.args.self.now { log = log })
    (received-taken c.args.self.now c.args.upstream.now (entries_of c.self.inside.log) c.wal-from.result.now
    count c.args.most c.receive_entries.new.log mine theirs counted logged)
    ∙ taken-current c.args.self.now c.args.upstream.now _ (sym c.requires.current ∙ c.if-current.true))
    c.receive_entries.ensures.count c.receive_entries.ensures.log
