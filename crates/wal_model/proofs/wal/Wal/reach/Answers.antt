use Rattle.std.proofs.Common.{◌≡◌, ◌+◌, ◌≤◌, ◌∷◌, [], ◌++◌, length, take, get_or, subst, sym, ap, arith, ◌∙◌}
use Rattle.std.proofs.lemmas.List.{length-take}
use Rattle.std.proofs.lemmas.Option.{slice_get-get_or}
use Rattle.wal_model.specs.declared.entry.Entry.{Entry}
use Rattle.wal_model.specs.Log.{end_of}
use Rattle.wal_model.specs.Pieces.{Grows}
use Rattle.wal_model.proofs.Growth.{next-fits, taken-next, grows-taken, prefix-length}
use Rattle.wal_model.proofs.wal.Wal.reach.Goals.{in-Some+in_ok-push, in_default}
use Rattle.wal_model.proofs.wal.Wal.reach.Goals as goal

none : Entry
none = record { serial = 0; timeline = 0; bytes = 0 }

pub push-requires : goal.push-requires
push-requires c =
    let from = c.args.from.now in
    let place = c.loop-place.place in
    omega (
      arith,
      ap end_of c.loop-place.invariant.0,
      next-fits from place c.in-Some.entry (sym c.in-Some.is ∙ c.get.ensures),
      c.end-end.ensures.position,
      c.end-end.result.within,
    )

pub loop-place-preserved : goal.loop-place-preserved
loop-place-preserved c =
    elim c.match-get.branch [
      | in-Some+in_ok-push w ↦
          let next : c.match-get.self ≡ take (c.loop-place.place + 1) c.args.from.now =
          w.self-is ∙ w.in_ok-push.ensures.ok ∙ ap (λ t. t ++ w.in-Some.entry ∷ []) c.loop-place.invariant.0
          ∙ taken-next c.args.from.now c.loop-place.place w.in-Some.entry (sym w.in-Some.is ∙ c.get.ensures) in
          let longer : length c.args.self.now ≤ c.loop-place.place + 1 =
          omega (
            arith,
            prefix-length c.args.self.now c.loop-place.self c.loop-place.invariant.1.longer,
            ap length c.loop-place.invariant.0,
            length-take c.loop-place.place c.args.from.now,
          ) in (
            next,
            subst (λ t. Grows c.args.self.now t c.args.from.now c.args.until) (sym next)
                (grows-taken c.args.self.now c.args.from.now
                (c.loop-place.place + 1) c.args.until c.requires.prefix longer (omega (arith, c.loop-place-test.true))),
          )
      | in_default w ↦
          absurd (w.in_default.not-Some (get_or c.args.from.now c.loop-place.place none)
          (c.get.ensures ∙ slice_get-get_or c.args.from.now c.loop-place.place none
          (omega (arith, c.loop-place-test.true, c.requires.within))))
    ]
