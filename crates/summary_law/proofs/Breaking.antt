-- What breaks the premises.
use Rattle.std.proofs.Common.{◌≡◌, ℕ, ◌-◌, ◌≤◌, ◌<◌, List, [], ◌∷◌, ◌++◌, zero, suc, Option, Some, None, Bool, true, false, arith, refl, sym, ap, subst, ◌∙◌, inl, inr}
use Rattle.std.specs.Prelude.{nat_lt}
use Rattle.std.proofs.lemmas.Bool.Decides.{nat_tests}
use Rattle.pat_base.specs.declared.name.Name.{Name}
use Rattle.pat_base.specs.declared.ticks.Ticks.{Ticks}
use Rattle.store_keys.specs.Settings.{Settings}
use Rattle.store_keys.specs.declared.txn.Txn.TheVariants as txns
use Rattle.store_keys.specs.declared.txn.OperatorTxn.TheVariants as operator_txns
use Rattle.event_book.specs.declared.event.Event.{Event}
use Rattle.event_book.specs.declared.event.EventKind.{EventKind}
use Rattle.event_book.specs.declared.event.EventKind.TheVariants as kinds
use Rattle.event_book.specs.declared.event.ServerEvent.{ServerEvent}
use Rattle.event_book.specs.declared.event.ServerEvent.TheVariants as servers
use Rattle.event_book.specs.declared.event.StoreEvent.{StoreEvent}
use Rattle.event_book.specs.declared.event.StoreEvent.TheVariants as stores
use Rattle.event_book.specs.declared.event.WatchdogEvent.{WatchdogEvent}
use Rattle.event_book.specs.declared.event.WatchdogEvent.TheVariants as watchdogs
use Rattle.event_book.specs.declared.reason.Basis.{Basis}
use Rattle.event_book.specs.declared.reason.Basis.TheVariants as bases
use Rattle.event_book.specs.Premises.{IsOnTime, AreHandsOff, AreInTime, ArePremisesMet, IsFeedInTime, IsHandsOffKind, IsKindInTime, Moments, first_moments, moments_after}
use Rattle.lease_model.proofs.Tools.{both, none-some, some-is}
use Rattle.summary_model.specs.declared.answers.Breach.{Breach}
use Rattle.summary_model.specs.declared.answers.Breach.TheVariants as breaches
use Rattle.summary_model.specs.declared.answers.Premises.{Premises}
use Rattle.summary_model.specs.declared.answers.Premises.TheVariants as premises
use Rattle.summary_model.specs.declared.answers.WatchOf.{WatchOf}
use Rattle.summary_model.specs.Claims.{IsBreachBy, IsToldOfPremises, margin_of, margin_ticks, works_of}
use Rattle.summary_model.specs.Heads.{is_watching, first_unwatched, name_unless, head_breach}
use Rattle.summary_model.specs.Moments.{now_over, moments_over, AreAllFronts}
use Rattle.summary_model.specs.Noting.{margin_at, is_past_margin, late_if, pause_if, breach_by_watchdog, breach_by_store, breach_by_server, breach_of, broken_by, premises_after}
use Rattle.summary_model.specs.Seeing.{IsLateness, IsLatenessOn}
use Rattle.summary_law.proofs.Fronts.{fronts-start, fronts-more, whole-front, breaks-now, breaks-first, breaks-more}

lt-from : (m n : ℕ) → nat_lt m n ≡ true → m < n
lt-from m n e = grind (arith, nat_tests)

le-from-not : (m n : ℕ) → nat_lt m n ≡ false → n ≤ m
le-from-not m n e = grind (arith, nat_tests)

-- what a watchdog's margin says of a lateness
on-time : (margin : Option Ticks) (clock moment lateness : ℕ) → is_past_margin margin lateness ≡ false
    → clock - moment ≤ lateness → IsOnTime (margin_ticks margin) clock moment
on-time None clock moment lateness small span = tt
on-time (Some margin) clock moment lateness small span =
    let most : lateness ≤ margin.0 = le-from-not margin.0 lateness small in omega (arith, most, span)

too-late : (margin : Option Ticks) (clock moment lateness : ℕ) → is_past_margin margin lateness ≡ true
    → lateness ≡ clock - moment → IsOnTime (margin_ticks margin) clock moment → ⊥
too-late None clock moment lateness late span time = both late
too-late (Some margin) clock moment lateness late span time =
    let more : margin.0 < lateness = lt-from margin.0 lateness late in omega (arith, more, span, time)

none-late : (margin : Option Ticks) (lateness : ℕ) → lateness ≡ 0 → is_past_margin margin lateness ≡ true → ⊥
none-late None lateness none late = both late
none-late (Some margin) lateness none late =
    let more : margin.0 < lateness = lt-from margin.0 lateness late in omega (arith, more, none)

-- the same of a feed by its basis
fed-in-time : (margin : ℕ → Option ℕ) (own : Option Ticks) (moments : Moments) (m : ℕ) (basis : Basis) (lateness : ℕ)
    → margin_ticks own ≡ margin m → is_past_margin own lateness ≡ false
    → IsLatenessOn moments m basis lateness → IsFeedInTime margin moments m basis
fed-in-time margin own moments m basis lateness is small span = λ moment from. subst
    (λ o. IsOnTime o moments.clock moment) is (on-time own moments.clock moment lateness small (span.most moment from))

fed-late : (margin : ℕ → Option ℕ) (own : Option Ticks) (moments : Moments) (m : ℕ) (basis : Basis) (lateness : ℕ)
    → margin_ticks own ≡ margin m → is_past_margin own lateness ≡ true → IsLatenessOn moments m basis lateness
    → IsFeedInTime margin moments m basis → ⊥
fed-late margin own moments m basis lateness is late span time =
    elim span.one [
      | inl none ↦ none-late own lateness none late
      | inr one ↦ too-late own moments.clock one.0 lateness late one.2
          (subst (λ o. IsOnTime o moments.clock one.0) (sym is) (time one.0 one.1))
    ]

-- a late one is told, and no other
late-none : (test : Bool) (name : Name) → late_if test name ≡ None → test ≡ false
late-none true name e = absurd (none-some (breaches.LateWatchdog name) (sym e))
late-none false name e = refl

late-some : (test : Bool) (name : Name) (why : Breach) → late_if test name ≡ Some why
    → (test ≡ true) × (breaches.LateWatchdog name ≡ why)
late-some true name why e = (refl, some-is (breaches.LateWatchdog name) why e)
late-some false name why e = absurd (none-some why e)

-- margins that are those declared
abbrev Same : List (Option Ticks) → (ℕ → Option ℕ) → Type 0
Same margins margin = (m : ℕ) → margin_ticks (margin_at margins m) ≡ margin m

watchdog-right : (margins : List (Option Ticks)) (margin : ℕ → Option ℕ) (moments : Moments) (lateness : ℕ)
    (happening : WatchdogEvent) → Same margins margin → breach_by_watchdog margins lateness happening ≡ None
    → IsLateness moments (kinds.Watchdog happening) lateness → IsKindInTime margin moments (kinds.Watchdog happening)
watchdog-right margins margin moments lateness (watchdogs.Armed member until answer) same none span =
    fed-in-time margin (margin_at margins member.id.number) moments member.id.number
    (bases.Grant answer) lateness (same member.id.number)
    (late-none (is_past_margin (margin_at margins member.id.number) lateness) member.name none) span
watchdog-right margins margin moments lateness (watchdogs.Fed member until basis) same none span =
    fed-in-time margin (margin_at margins member.id.number) moments member.id.number basis lateness
    (same member.id.number)
    (late-none (is_past_margin (margin_at margins member.id.number) lateness) member.name none) span
watchdog-right margins margin moments lateness _ same none span = tt

-- a breach is told of the right member, and the event isn't in time
record IsWrong (margin : ℕ → Option ℕ) (moments : Moments) (kind : EventKind) (why : Breach) : Type 0 where
  told : IsBreachBy why kind
  fails : IsKindInTime margin moments kind → IsHandsOffKind kind → ⊥

watchdog-wrong : (margins : List (Option Ticks)) (margin : ℕ → Option ℕ) (moments : Moments) (lateness : ℕ)
    (happening : WatchdogEvent) (why : Breach) → Same margins margin
    → breach_by_watchdog margins lateness happening ≡ Some why
    → IsLateness moments (kinds.Watchdog happening) lateness → IsWrong margin moments (kinds.Watchdog happening) why
watchdog-wrong margins margin moments lateness (watchdogs.Armed member until answer) why same some span =
    let own = margin_at margins member.id.number in
    let late = late-some (is_past_margin own lateness) member.name why some in
    record {
      told = subst (λ w. IsBreachBy w (kinds.Watchdog (watchdogs.Armed member until answer))) late.1 refl;
      fails = λ time off. fed-late margin own moments member.id.number (bases.Grant answer) lateness
          (same member.id.number) late.0 span time;
    }
watchdog-wrong margins margin moments lateness (watchdogs.Fed member until basis) why same some span =
    let own = margin_at margins member.id.number in
    let late = late-some (is_past_margin own lateness) member.name why some in
    record {
      told = subst (λ w. IsBreachBy w (kinds.Watchdog (watchdogs.Fed member until basis))) late.1 refl;
      fails = λ time off.
          fed-late margin own moments member.id.number basis lateness (same member.id.number) late.0 span time;
    }
watchdog-wrong margins margin moments lateness _ why same some span = absurd (none-some why some)

pause-none : (pauses : Bool) → pause_if pauses ≡ None → pauses ≡ false
pause-none true e = absurd (none-some breaches.Pause (sym e))
pause-none false e = refl

pause-some : (pauses : Bool) (why : Breach) → pause_if pauses ≡ Some why → (pauses ≡ true) × (breaches.Pause ≡ why)
pause-some true why e = (refl, some-is breaches.Pause why e)
pause-some false why e = absurd (none-some why e)

store-right : (happening : StoreEvent) → breach_by_store happening ≡ None → IsHandsOffKind (kinds.Store happening)
store-right (stores.Granted number by (txns.Operators (operator_txns.SetConfig revision config)) standbys) none =
    pause-none config.config.pause none
store-right _ none = tt

store-wrong : (margin : ℕ → Option ℕ) (moments : Moments) (happening : StoreEvent) (why : Breach)
    → breach_by_store happening ≡ Some why → IsWrong margin moments (kinds.Store happening) why
store-wrong margin moments
    (stores.Granted number by (txns.Operators (operator_txns.SetConfig revision config)) standbys) why some =
    let pauses = pause-some config.config.pause why some in
    record {
      told =
          subst (λ w. IsBreachBy w
          (kinds.Store (stores.Granted number by (txns.Operators (operator_txns.SetConfig revision config)) standbys)))
          pauses.1 pauses.0;
      fails = λ time off. both (sym off ∙ pauses.0);
    }
store-wrong margin moments _ why some = absurd (none-some why some)

server-right : (happening : ServerEvent) → breach_by_server happening ≡ None → IsHandsOffKind (kinds.Server happening)
server-right (servers.Promoted server) none = absurd (none-some (breaches.Operator server.name) (sym none))
server-right _ none = tt

server-wrong : (margin : ℕ → Option ℕ) (moments : Moments) (happening : ServerEvent) (why : Breach)
    → breach_by_server happening ≡ Some why → IsWrong margin moments (kinds.Server happening) why
server-wrong margin moments (servers.Promoted server) why some = record {
  told = subst (λ w. IsBreachBy w (kinds.Server (servers.Promoted server)))
      (some-is (breaches.Operator server.name) why some) refl;
  fails = λ time off. off;
}
server-wrong margin moments _ why some = absurd (none-some why some)

-- an event that breaks nothing, and one that breaks something
kind-right : (margins : List (Option Ticks)) (margin : ℕ → Option ℕ) (moments : Moments) (lateness : ℕ)
    (kind : EventKind) → Same margins margin → breach_of margins lateness kind ≡ None
    → IsLateness moments kind lateness → IsKindInTime margin moments kind × IsHandsOffKind kind
kind-right margins margin moments lateness (kinds.Watchdog happening) same none span =
    (watchdog-right margins margin moments lateness happening same none span, tt)
kind-right margins margin moments lateness (kinds.Store happening) same none span = (tt, store-right happening none)
kind-right margins margin moments lateness (kinds.Server happening) same none span = (tt, server-right happening none)
kind-right margins margin moments lateness _ same none span = (tt, tt)

kind-wrong : (margins : List (Option Ticks)) (margin : ℕ → Option ℕ) (moments : Moments) (lateness : ℕ)
    (kind : EventKind) (why : Breach) → Same margins margin → breach_of margins lateness kind ≡ Some why
    → IsLateness moments kind lateness → IsWrong margin moments kind why
kind-wrong margins margin moments lateness (kinds.Watchdog happening) why same some span =
    watchdog-wrong margins margin moments lateness happening why same some span
kind-wrong margins margin moments lateness (kinds.Store happening) why same some span =
    store-wrong margin moments happening why some
kind-wrong margins margin moments lateness (kinds.Server happening) why same some span =
    server-wrong margin moments happening why some
kind-wrong margins margin moments lateness _ why same some span = absurd (none-some why some)

-- the premises of a book with one more event
times-more : (margin : ℕ → Option ℕ) (moments : Moments) (book : List Event) (event : Event)
    → AreInTime margin moments book → IsKindInTime margin (moments_over moments book) event.kind
    → AreInTime margin moments (book ++ event ∷ [])
times-more margin moments [] event times time = (time, tt)
times-more margin moments (x ∷ book) event times time =
    (times.0, times-more margin (moments_after moments x.kind) book event times.1 time)

times-last : (margin : ℕ → Option ℕ) (moments : Moments) (book : List Event) (event : Event)
    → AreInTime margin moments (book ++ event ∷ []) → IsKindInTime margin (moments_over moments book) event.kind
times-last margin moments [] event times = times.0
times-last margin moments (x ∷ book) event times = times-last margin (moments_after moments x.kind) book event times.1

hands-more : (book : List Event) (event : Event) → AreHandsOff book → IsHandsOffKind event.kind
    → AreHandsOff (book ++ event ∷ [])
hands-more [] event off one = (one, tt)
hands-more (x ∷ book) event off one = (off.0, hands-more book event off.1 one)

hands-last : (book : List Event) (event : Event) → AreHandsOff (book ++ event ∷ []) → IsHandsOffKind event.kind
hands-last [] event off = off.0
hands-last (x ∷ book) event off = hands-last book event off.1

met-more : (members : List WatchOf) (first : Settings) (book : List Event) (event : Event)
    → ArePremisesMet (margin_of members) (works_of members) first book
    → IsKindInTime (margin_of members) (moments_over first_moments book) event.kind × IsHandsOffKind event.kind
    → ArePremisesMet (margin_of members) (works_of members) first (book ++ event ∷ [])
met-more members first book event met one = record {
  timely = times-more (margin_of members) first_moments book event met.timely one.0;
  hands_off = record {
    unpaused = met.hands_off.unpaused;
    watched = met.hands_off.watched;
    events = hands-more book event met.hands_off.events one.1;
  };
}

-- what is told of the premises after one more event
noted-breach : (members : List WatchOf) (first : Settings) (margins : List (Option Ticks)) (book : List Event)
    (event : Event) (lateness : ℕ) (now : Ticks) (breach : Option Breach)
    → breach_of margins lateness event.kind ≡ breach
    → Same margins (margin_of members) → IsLateness (moments_over first_moments book) event.kind lateness
    → now.0 ≡ now_over 0 (book ++ event ∷ [])
    → AreAllFronts (ArePremisesMet (margin_of members) (works_of members) first) book
    → IsToldOfPremises members first (book ++ event ∷ []) (broken_by breach now)
unfolding breaks-now
noted-breach members first margins book event lateness now None is same span end all =
    fronts-more (ArePremisesMet (margin_of members) (works_of members) first) book event all
    (met-more members first book event
    (whole-front (ArePremisesMet (margin_of members) (works_of members) first) book all)
    (kind-right margins (margin_of members) (moments_over first_moments book) lateness event.kind same is span))
noted-breach members first margins book event lateness now (Some why) is same span end all =
    let wrong =
    kind-wrong margins (margin_of members) (moments_over first_moments book) lateness event.kind why same is span in
    record {
      break = breaks-now (ArePremisesMet (margin_of members) (works_of members) first) book event now.0 all
          (λ met. wrong.fails (times-last (margin_of members) first_moments book event met.timely)
          (hands-last book event met.hands_off.events))
          end;
      why_is = inr (book, event, refl, wrong.told);
    }

pub premises-more : (members : List WatchOf) (first : Settings) (margins : List (Option Ticks))
    (book : List Event) (event : Event) (lateness : ℕ) (now : Ticks) (told : Premises)
    → ((m : ℕ) → margin_ticks (margin_at margins m) ≡ margin_of members m)
    → IsLateness (moments_over first_moments book) event.kind lateness
    → now.0 ≡ now_over 0 (book ++ event ∷ []) → IsToldOfPremises members first book told
    → IsToldOfPremises members first (book ++ event ∷ []) (premises_after told now margins lateness event.kind)
unfolding breaks-more
premises-more members first margins book event lateness now premises.Met same span end told =
    noted-breach members first margins book event lateness now
    (breach_of margins lateness event.kind) refl same span end told
premises-more members first margins book event lateness now (premises.Broken tick why) same span end told = record {
  break = breaks-more (ArePremisesMet (margin_of members) (works_of members) first) book event tick.0 told.break;
  why_is = told.why_is;
}

-- the head
all-working : (members : List WatchOf) → first_unwatched members ≡ None → (m : ℕ) → works_of members m ≡ true
all-working [] none m = refl
all-working (w ∷ ws) none m = go (is_watching w) refl none m (all-working ws)
  where
    go : (test : Bool) → is_watching w ≡ test → name_unless test w.name (first_unwatched ws) ≡ None → (n : ℕ)
        → (first_unwatched ws ≡ None → (k : ℕ) → works_of ws k ≡ true) → works_of (w ∷ ws) n ≡ true
    go true is found zero others = is
    go true is found (suc n) others = others found n
    go false is found n others = absurd (none-some w.name (sym found))

not-working : (members : List WatchOf) (name : Name) → first_unwatched members ≡ Some name
    → ((m : ℕ) → works_of members m ≡ true) → ⊥
not-working [] name some works = none-some name some
not-working (w ∷ ws) name some works =
    go (is_watching w) refl some (λ found. not-working ws name found (λ m. works (suc m)))
  where
    go : (test : Bool) → is_watching w ≡ test → name_unless test w.name (first_unwatched ws) ≡ Some name
        → (first_unwatched ws ≡ Some name → ⊥) → ⊥
    go true is found others = others found
    go false is found others = both (sym is ∙ works zero)

pub premises-first : (members : List WatchOf) (first : Settings) (pauses : Bool) (unwatched : Option Name)
    → first_unwatched members ≡ unwatched → first.config.pause ≡ pauses
    → IsToldOfPremises members first [] (broken_by (head_breach unwatched pauses) (record { 0 = 0 }))
unfolding breaks-first
premises-first members first pauses (Some name) is paused = record {
  break = breaks-first (ArePremisesMet (margin_of members) (works_of members) first)
      (λ met. not-working members name is met.hands_off.watched);
  why_is = inl (refl, ap (λ (o : Option Name). head_breach o first.config.pause) is);
}
premises-first members first true None is paused = record {
  break = breaks-first (ArePremisesMet (margin_of members) (works_of members) first)
      (λ met. both (sym met.hands_off.unpaused ∙ paused));
  why_is = inl (refl, ap (λ (o : Option Name). head_breach o first.config.pause) is ∙ ap pause_if paused);
}
premises-first members first false None is paused =
    fronts-start (ArePremisesMet (margin_of members) (works_of members) first)
    (record { timely = tt; hands_off = record { unpaused = paused; watched = all-working members is; events = tt } })
