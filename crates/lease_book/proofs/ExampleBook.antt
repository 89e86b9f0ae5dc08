-- A causal book: a create is asked for and granted, and its answer is in flight.
use Rattle.std.proofs.Common.{◌≡◌, ℕ, List, Some, refl, arith}
use Rattle.pat_base.specs.declared.name.Name.{Name}
use Rattle.store_keys.specs.Settings.{Settings}
use Rattle.store_keys.specs.declared.value.MemberInfo.{MemberInfo}
use Rattle.event_book.specs.declared.member.Member.{Member}
use Rattle.event_book.specs.Facts.{start_of}
use Rattle.lease_model.specs.Leases.{Answered}
use Rattle.lease_model.specs.Past.{first_past, past_of}
use Rattle.lease_book.specs.Flights.{AreCausal}
use Rattle.lease_book.specs.Example.{asked_and_granted, answer_flying}

pub example : (first : Settings) (names : List Name) (base : ℕ) (by : Member) (info : MemberInfo)
    → AreCausal first_past (start_of first names base) (asked_and_granted by info)
    × ((past_of (asked_and_granted by info)).flight 2 ≡ Some (Answered (answer_flying by)))
example first names base by info = (
  (
    tt,
    (
      (omega arith, tt),
      (
        tt,
        (
          tt,
          (
            omega arith,
            (
              tt,
              (
                tt,
                (
                  (
                    omega arith,
                    record { question = _; is = refl; asker = refl; in_run = refl; numbered = refl; leasing = refl },
                  ),
                  tt,
                ),
              ),
            ),
          ),
        ),
      ),
    ),
  ),
  refl,
)
