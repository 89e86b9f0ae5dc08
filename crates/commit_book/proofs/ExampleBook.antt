-- A causal book: a create and a claim are asked for and granted, and the answer to the claim is in flight.
use Rattle.std.proofs.Common.{◌≡◌, ℕ, List, Option, Some, refl, arith}
use Rattle.pat_base.specs.declared.lsn.Lsn.{Lsn}
use Rattle.pat_base.specs.declared.name.Name.{Name}
use Rattle.pat_base.specs.declared.server_state.Required.{Required}
use Rattle.store_keys.specs.Settings.{Settings}
use Rattle.store_keys.specs.declared.value.MemberInfo.{MemberInfo}
use Rattle.event_book.specs.declared.member.Member.{Member}
use Rattle.event_book.specs.Facts.{start_of}
use Rattle.event_book.specs.Logs.{Logs}
use Rattle.commit_actions.specs.Flights.{SyncGranted}
use Rattle.commit_actions.specs.Past.{first_past, past_over}
use Rattle.commit_book.specs.Example.{claimed, led_and_claimed, claim_flying}
use Rattle.lease_model.specs.Past as lease_past
use Rattle.lease_book.specs.Example.{asked_and_granted}
use Rattle.lease_book.proofs.Groups as lease_groups
use Rattle.lease_book.proofs.ExampleBook as lease_example
use Rattle.commit_book.specs.Flights.{AreCausal}

pub example : (logs : Logs) (required : List Required) (confirmed : List (List (Option Lsn)))
    (first : Settings) (names : List Name) (base : ℕ) (by : Member) (info : MemberInfo)
    → AreCausal (first_past logs required confirmed) (start_of first names base) (led_and_claimed by info)
    × ((past_over (first_past logs required confirmed) (led_and_claimed by info)).flight 4
    ≡ Some (SyncGranted (claim_flying by)))
example logs required confirmed first names base by info = (
  (
    lease_groups.causal-both lease_past.first_past (start_of first names base) (asked_and_granted by info)
        (claimed by) (lease_example.example first names base by info).0 (
          tt,
          (
            (omega arith, tt),
            (
              tt,
              (
                tt,
                (
                  tt,
                  (
                    tt,
                    (
                      tt,
                      (
                        (
                          omega arith,
                          record {
                            question = _;
                            is = refl;
                            asker = refl;
                            in_run = refl;
                            numbered = refl;
                            leasing = refl;
                          },
                        ),
                        tt,
                      ),
                    ),
                  ),
                ),
              ),
            ),
          ),
        ),
    (
      tt,
      (
        tt,
        (
          tt,
          (
            record { before = omega arith; named = tt; leasing = refl; written = refl },
            (
              tt,
              (
                tt,
                (
                  tt,
                  (record { before = omega arith; named = (refl, (refl, refl)); leasing = refl; written = refl }, tt),
                ),
              ),
            ),
          ),
        ),
      ),
    ),
  ),
  refl,
)
