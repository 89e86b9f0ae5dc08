-- What servers lack, written down member by member.
use Rattle.std.proofs.Common.{◌≡◌, ℕ, ◌+◌, ◌≤◌, ◌<◌, ◌&&◌, not, Bool, false, List, [], ◌∷◌, Option, Some, None, refl, drop, get_or, length, ◌∙◌, ap, sym}
use Rattle.std.specs.Prelude.{slice_get}
use Rattle.std.proofs.lemmas.List.{drop_all, drop_more, map-append}
use Rattle.pat_base.specs.declared.ticks.Ticks.{Ticks}
use Rattle.wal_model.specs.Lacking.{has_serial}
use Rattle.pg_model.specs.Facts.{ServerFacts, entries_of}
use Rattle.event_book.specs.declared.member.Member.{Member}
use Rattle.event_book.specs.Writers.{writes_now}
use Rattle.event_list.specs.Listed.{Listed, ◌+++◌}
use Rattle.event_list.proofs.Appended.{appended-nil, appended_assoc}
use Rattle.cluster_model.specs.Commands.{kinds_of}
use Rattle.cluster_model.specs.Losing.{loss_if, loss_of, losses_of}
use Rattle.cluster_model.specs.Parts.{events_at}

-- what one server lacks is written down, and then what the servers of the members behind it do
pub losses-more : (commit : ℕ) (known : List ServerFacts) (members : List Member) (tick : Ticks)
    (had longer whole : Listed) (place : ℕ) (member : Member) → place < length members
    → member ≡ get_or members place member
    → longer ≡ had +++ events_at tick (loss_of commit member (slice_get known member.id.number))
    → had +++ events_at tick (losses_of commit known (drop place members)) ≡ whole
    → longer +++ events_at tick (losses_of commit known (drop (place + 1) members)) ≡ whole
losses-more commit known members tick had longer whole place member there is longer_is so =
    let next : drop place members ≡ member ∷ drop (place + 1) members = drop_more members place member there
    ∙ ap (λ (m : Member). m ∷ drop (place + 1) members) (sym is) in
    let one = loss_of commit member (slice_get known member.id.number) in
    let rest = losses_of commit known (drop (place + 1) members) in
    ap (λ es. es +++ events_at tick rest) longer_is ∙ appended_assoc had (events_at tick one) (events_at tick rest)
    ∙ ap (λ es. had +++ es) (sym (map-append _ one rest))
    ∙ ap (λ (ms : List Member). had +++ events_at tick (losses_of commit known ms)) (sym next) ∙ so

-- a server that accepts no writes lacks nothing
pub lacks-none : (commit : ℕ) (member : Member) (found : Option ServerFacts) (tick : Ticks) (had : Listed)
    → writes_now found ≡ false → had ≡ had +++ events_at tick (loss_of commit member found)
lacks-none commit member found tick had none =
    sym (appended-nil had) ∙ ap (λ kinds. had +++ events_at tick kinds) (sym (by found none))
  where
    by : (o : Option ServerFacts) → writes_now o ≡ false → loss_of commit member o ≡ []
    by None out = refl
    by (Some s) out = ap (λ (b : Bool). kinds_of (loss_if member (b && not (has_serial (entries_of s.log) commit)))) out

-- none is left
pub losses-end : (commit : ℕ) (known : List ServerFacts) (members : List Member) (tick : Ticks)
    (had whole : Listed) (place : ℕ) → length members ≤ place
    → had +++ events_at tick (losses_of commit known (drop place members)) ≡ whole → had ≡ whole
losses-end commit known members tick had whole place over so =
    sym (appended-nil had)
    ∙ ap (λ (ms : List Member). had +++ events_at tick (losses_of commit known ms)) (sym (drop_all place members over))
    ∙ so
