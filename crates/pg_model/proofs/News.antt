-- What a replica gets from its upstream, and what it is then.
use Rattle.std.proofs.Common.{◌≡◌, ℕ, ◌-◌, ◌==◌, ◌&&◌, Bool, true, false, cond, min, List, [], ◌++◌, length, take, drop, Option, Some, None, refl, sym, ap, subst, ◌∙◌, arith, append-nil, append_assoc, length-drop, take-append-drop}
use Rattle.std.specs.Prelude.{IsSome, IsTrue}
use Rattle.std.proofs.lemmas.Bool.{and_parts, and_from}
use Rattle.std.proofs.lemmas.Bool.Decides.{nat_tests}
use Rattle.std.proofs.lemmas.Option.{same_Some}
use Rattle.std.proofs.lemmas.List.{take_min, drop_at}
use Rattle.wal_model.specs.declared.entry.Entry.{Entry}
use Rattle.pat_base.specs.ServerState.{writes}
use Rattle.wal_model.specs.History.{same_points}
use Rattle.wal_model.specs.Log.{IsPrefixOf, is_prefix, fork_of, received}
use Rattle.pat_base.specs.declared.lsn.Lsn.{Lsn}
use Rattle.pat_base.specs.Lsn.{lsn_at}
use Rattle.pg_model.specs.declared.answers.Streamed.{Streamed}
use Rattle.pg_model.specs.declared.answers.Streamed.TheVariants as streams
use Rattle.pg_model.specs.Facts.{ServerFacts, entries_of}
use Rattle.pg_model.specs.Replication.{stream_by, stream_of, streamed, received_from, is_current, news_where, news_by, news_of, after_streamed, after_news}
use Rattle.pg_model.specs.declared.server.catching_up.Met.{Met}
use Rattle.pg_model.specs.declared.server.catching_up.Met.TheVariants as mets
use Rattle.pg_model.specs.CatchingUp.{log_position_of, IsBehind, CatchesUp, answer_of, has_received}
use Rattle.wal_model.proofs.Entries.{is_prefix-to}
use Rattle.wal_model.proofs.Points.{same-points-to, same-points-from}

received-count : (log from : List Entry) (most : ℕ)
    → received log from most ≡ received log from (min most (length from - length log))
received-count log from most =
    ap (λ t. log ++ t)
    (sym (take_min most (drop (length log) from))
    ∙ ap (λ n. take (min most n) (drop (length log) from)) (length-drop (length log) from))

no-some : {X : Type 0} (x : X) → None ≡ Some x → ⊥
no-some x e = cc

only-some : {X : Type 0} (b : Bool) (x y : X) → cond b None (Some x) ≡ Some y → x ≡ y
only-some true x y e = absurd (no-some y e)
only-some false x y e = same_Some x y e

only-none : {X : Type 0} (b : Bool) (x : X) → cond b None (Some x) ≡ None → b ≡ true
only-none true x e = refl
only-none false x e = absurd (no-some x (sym e))

answer-by : (answer news : Streamed) (s upstream : ServerFacts) → news_by answer s upstream ≡ Some news → answer ≡ news
answer-by streams.NotConnected news s upstream e = absurd (no-some news e)
answer-by (streams.Diverged at) news s upstream e = only-some s.diverged (streams.Diverged at) news e
answer-by (streams.Received count) news s upstream e =
    only-some ((count == 0) && is_current s upstream) (streams.Received count) news e

-- news are the answer of streaming
pub news-answer : (s upstream : ServerFacts) (most : ℕ) (news : Streamed)
    → news_of s upstream most ≡ Some news → stream_of s upstream most ≡ news
news-answer s upstream most news e = answer-by (stream_of s upstream most) news s upstream e

-- and they tell what streaming makes of the replica
pub news-after_streamed : (s upstream : ServerFacts) (most : ℕ) (news : Streamed)
    → news_of s upstream most ≡ Some news → streamed s upstream most ≡ after_streamed news s upstream
news-after_streamed s upstream most news e =
    ap (λ answer. after_streamed answer s upstream) (news-answer s upstream most news e)

is-zero : (n : ℕ) → (n == 0) ≡ true → n ≡ 0
is-zero n e = grind (arith, nat_tests)

same-number : (m n : ℕ) → (m == n) ≡ true → m ≡ n
same-number m n e = grind (arith, nat_tests)

pub current-timeline : (s upstream : ServerFacts) → is_current s upstream ≡ true → s.timeline ≡ upstream.timeline
current-timeline s upstream e = same-number s.timeline upstream.timeline (and_parts _ _ e).0

pub current-history : (s upstream : ServerFacts) → is_current s upstream ≡ true → s.history ≡ upstream.history
current-history s upstream e = same-points-to s.history upstream.history (and_parts _ _ e).1

pub is_current-from : (s upstream : ServerFacts) → s.timeline ≡ upstream.timeline
    → s.history ≡ upstream.history → is_current s upstream ≡ true
is_current-from s upstream timeline history =
    and_from (s.timeline == upstream.timeline) (same_points s.history upstream.history)
    (number s.timeline upstream.timeline timeline) (same-points-from s.history upstream.history history)
  where
    number : (m n : ℕ) → m ≡ n → (m == n) ≡ true
    number m n e = grind (arith, nat_tests)

-- a replica that has the timeline and the history takes only the log
pub taken-current : (s upstream : ServerFacts) (log : Option (List Entry)) → is_current s upstream ≡ true
    → record s { log = log } ≡ record s { log = log; timeline = upstream.timeline; history = upstream.history }
taken-current s upstream log e =
    ap (λ timeline. record s { log = log; timeline = timeline }) (current-timeline s upstream e)
    ∙ ap (λ history. record s { log = log; timeline = upstream.timeline; history = history })
    (current-history s upstream e)

same-log : (log : Option (List Entry)) → IsSome log → Some (entries_of log ++ []) ≡ log
same-log None h = absurd (clash h)
  where
    clash : false ≡ true → ⊥
    clash h = cc
same-log (Some entries) h = ap (λ t. Some t) (append-nil entries)

-- nothing was received
pub received-nothing : (s upstream : ServerFacts) → IsSome s.log → is_current s upstream ≡ true
    → received_from 0 s upstream ≡ s
received-nothing s upstream there e =
    sym (taken-current s upstream (Some (entries_of s.log ++ [])) e)
    ∙ ap (λ log. record s { log = log }) (same-log s.log there)

-- a log after it received, by how many entries there were
pub received-taken : (s upstream : ServerFacts) (mine from : List Entry) (count most : ℕ) (log : Option (List Entry))
    → mine ≡ entries_of s.log → from ≡ entries_of upstream.log → count ≡ min most (length from - length mine)
    → log ≡ Some (received mine from most) → log ≡ Some (received (entries_of s.log) (entries_of upstream.log) count)
received-taken s upstream mine from count most log p q counted logged =
    logged
    ∙ ap (λ t. Some t)
    (received-count mine from most ∙ ap (received mine from) (sym counted) ∙ ap (λ t. received t from count) p
    ∙ ap (λ t. received (entries_of s.log) t count) q)

received-prefix : (mine from : List Entry) (most : ℕ) → IsPrefixOf mine from → IsPrefixOf (received mine from most) from
received-prefix mine from most p =
    let rest : List Entry = drop (length mine) from in
    let is : from ≡ mine ++ rest = p.whole
    ∙ ap (λ t. mine ++ t) (sym (ap (drop (length mine)) p.whole ∙ drop_at mine p.rest (length mine) refl)) in
    record {
      rest = drop most rest;
      whole = is ∙ ap (λ t. mine ++ t) (sym (take-append-drop most rest))
          ∙ sym (append_assoc mine (take most rest) (drop most rest));
    }

after_streamed-none : (answer : Streamed) (s upstream : ServerFacts) → IsSome s.log
    → news_by answer s upstream ≡ None → after_streamed answer s upstream ≡ s
after_streamed-none streams.NotConnected s upstream there e = refl
after_streamed-none (streams.Diverged at) s upstream there e =
    ap (λ diverged. record s { diverged = diverged }) (sym (only-none s.diverged (streams.Diverged at) e))
after_streamed-none (streams.Received count) s upstream there e =
    let nothing : ((count == 0) && is_current s upstream) ≡ true = only-none _ (streams.Received count) e in
    let parts = and_parts _ _ nothing in
    ap (λ n. received_from n s upstream) (is-zero count parts.0) ∙ received-nothing s upstream there parts.1

-- where there are no news, streaming changes nothing
pub no-news : (s upstream : ServerFacts) (most : ℕ) → IsSome s.log → news_of s upstream most ≡ None
    → streamed s upstream most ≡ s
no-news s upstream most there e = after_streamed-none (stream_of s upstream most) s upstream there e

-- an answer makes of a replica what its news make of it
after_streamed-news : (answer : Streamed) (s upstream : ServerFacts) (news : Option Streamed) → IsSome s.log
    → news_by answer s upstream ≡ news → after_streamed answer s upstream ≡ after_news news s upstream
after_streamed-news answer s upstream None there e = after_streamed-none answer s upstream there e
after_streamed-news answer s upstream (Some news) there e =
    ap (λ t. after_streamed t s upstream) (answer-by answer news s upstream e)

-- ---- what a replica met
-- what it answers once it has changed
pub answer-after_streamed : (met : Met) (s upstream : ServerFacts)
    → answer_of met (after_streamed (answer_of met s upstream) s upstream) upstream ≡ answer_of met s upstream
answer-after_streamed mets.Nothing s upstream = refl
answer-after_streamed mets.Parted s upstream = refl
answer-after_streamed (mets.Received count) s upstream = refl

log_position-met : (met : Met) (s upstream : ServerFacts) → has_received met ≡ false
    → log_position_of (after_streamed (answer_of met s upstream) s upstream) ≡ log_position_of s
log_position-met mets.Nothing s upstream e = refl
log_position-met mets.Parted s upstream e = refl
log_position-met (mets.Received count) s upstream e = absurd (clash e)
  where
    clash : true ≡ false → ⊥
    clash e = cc

-- logs of which the answer says that they parted, or that entries came
parted-by : (writing : Bool) (mine theirs : List Entry) (most : ℕ) (at : Lsn)
    → streams.Diverged at ≡ stream_by writing mine theirs most → writing ≡ true
parted-by true mine theirs most at e = refl
parted-by false mine theirs most at e = cc

pub parted-writes : (met : Met) (s upstream : ServerFacts) (most : ℕ)
    → answer_of met s upstream ≡ stream_of s upstream most → met ≡ mets.Parted → IsTrue (writes upstream.state)
parted-writes met s upstream most is e =
    parted-by (writes upstream.state) (entries_of s.log) (entries_of upstream.log) most
    (lsn_at (fork_of (entries_of s.log) (entries_of upstream.log)))
    (ap (λ m. answer_of m s upstream) (sym e) ∙ is)

prefix-by : (prefix : Bool) (count received : ℕ) (at : Lsn)
    → streams.Received count ≡ cond prefix (streams.Received received) (streams.Diverged at) → prefix ≡ true
prefix-by true count received at e = refl
prefix-by false count received at e = cc

front-by : (writing : Bool) (mine theirs : List Entry) (most count : ℕ)
    → streams.Received count ≡ stream_by writing mine theirs most → is_prefix mine theirs ≡ true
front-by false mine theirs most count e = cc
front-by true mine theirs most count e = prefix-by (is_prefix mine theirs) count _ _ e

behind-met : (met : Met) (s upstream : ServerFacts) (most : ℕ)
    → answer_of met s upstream ≡ stream_of s upstream most → has_received met ≡ true
    → IsBehind (log_position_of (after_streamed (answer_of met s upstream) s upstream)) (log_position_of upstream)
behind-met mets.Nothing s upstream most is e = absurd (clash e)
  where
    clash : false ≡ true → ⊥
    clash e = cc
behind-met mets.Parted s upstream most is e = absurd (clash e)
  where
    clash : false ≡ true → ⊥
    clash e = cc
behind-met (mets.Received count) s upstream most is e = record {
  log = received-prefix (entries_of s.log) (entries_of upstream.log) count
      (is_prefix-to _ _ (front-by (writes upstream.state) (entries_of s.log) (entries_of upstream.log) most count is));
  timeline = refl;
  history = refl;
}

-- what it heard
pub caught_up : (met : Met) (s upstream after : ServerFacts) (most : ℕ) (news : Option Streamed)
    (diverged current received : Bool) → IsSome s.log → answer_of met s upstream ≡ stream_of s upstream most
    → after ≡ after_streamed (answer_of met s upstream) s upstream → diverged ≡ s.diverged
    → current ≡ is_current s upstream → news ≡ news_where (answer_of met after upstream) diverged current
    → received ≡ has_received met → CatchesUp s upstream most after news received
caught_up met s upstream after most news diverged current received there is changed known had told_is got =
    let answer : answer_of met after upstream ≡ answer_of met s upstream =
    ap (λ (t : ServerFacts). answer_of met t upstream) changed ∙ answer-after_streamed met s upstream in
    let by : news ≡ news_by (answer_of met s upstream) s upstream = told_is
    ∙ ap (λ t. news_where t diverged current) answer ∙ ap (λ t. news_where (answer_of met s upstream) t current) known
    ∙ ap (news_where (answer_of met s upstream) s.diverged) had in
    record {
      news_are = by ∙ ap (λ t. news_by t s upstream) is;
      after_is = changed ∙ after_streamed-news (answer_of met s upstream) s upstream news there (sym by);
      behind = λ e. subst (λ (t : ServerFacts). IsBehind (log_position_of t) (log_position_of upstream))
          (sym changed) (behind-met met s upstream most is (sym got ∙ e));
      log_position = λ e. ap log_position_of changed ∙ log_position-met met s upstream (sym got ∙ e);
    }
