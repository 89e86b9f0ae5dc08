-- Whom a body names, and what the key of a request that passes says of them.
use Rattle.std.proofs.Common.{◌≡◌, ℕ, ◌&&◌, not, get_or, Bool, true, false, List, [], ◌∷◌, Option, Some, None, Ok, refl, sym, ap, subst, ◌∙◌}
use Rattle.std.specs.Prelude.{slice_get, is_none, IsSomeAnd, bytes_eq, position, codes, option_and_then}
use Rattle.std.specs.Option.{option_copied}
use Rattle.std.proofs.lemmas.Bool.{eqb-true}
use Rattle.std.proofs.lemmas.List.Quantifiers.{position-Some}
use Rattle.std.proofs.lemmas.Option.{slice_get-get_or}
use Rattle.std.proofs.lemmas.Slice.Eq.{bytes_eq-Decides}
use Rattle.pat_base.specs.declared.host.Host.{Host}
use Rattle.pat_base.specs.declared.member_id.MemberId.{MemberId}
use Rattle.pat_base.specs.declared.name.Name.{Name}
use Rattle.pat_base.specs.MemberId.{member_of}
use Rattle.pat_base.specs.Name.{name_bytes}
use Rattle.pat_base.proofs.Members.{number-member_of}
use Rattle.store_keys.specs.declared.value.FailoverKey.{FailoverKey}
use Rattle.store_keys.specs.declared.value.MemberInfo.{MemberInfo}
use Rattle.store_keys.specs.declared.value.SyncKey.{SyncKey}
use Rattle.serde_json.specs.Data.{Data}
use Rattle.cluster_view.specs.declared.snapshot.LeaderEntry.{LeaderEntry}
use Rattle.cluster_view.specs.declared.view.AgentView.{AgentView}
use Rattle.cluster_config.specs.ConfigReading.{json_of}
use Rattle.cluster_view.specs.KeyValues.{config_in, failover_in, active_sync_in, info_in}
use Rattle.cluster_view.specs.Naming.{is_standby, leads}
use Rattle.cluster_view.specs.Snapshots.{SnapshotFacts, leader_in}
use Rattle.leader_race.specs.Eligibility.{may_fail_over}
use Rattle.leader_race.proofs.Barring.{no, no-bar}
use Rattle.operator_answers.specs.declared.answer_text.Text.TheVariants as texts
use Rattle.operator_keys.specs.declared.asked.Asked.{Asked}
use Rattle.operator_keys.specs.declared.asked.Named.{Named}
use Rattle.operator_keys.specs.declared.asked.Named.TheVariants as named
use Rattle.pat_base.specs.MemberNames.{has_name, member_named}
use Rattle.operator_keys.specs.Asking.{member_or_unknown, named_by, is_same_text, asked_by, is_nobody, member_if}
use Rattle.operator_keys.specs.Bodies.{text_at}
use Rattle.operator_keys.specs.Candidates.{names_leader, info_of, anyone_may_take_over}
use Rattle.operator_keys.specs.Checks.{switchover_key, failover_key, switchover_of, failover_of}
use Rattle.operator_keys.specs.Laws.{MayFollow, IsCalled}
use Rattle.operator_answers.specs.Statuses.{bad_request, precondition_failed}
use Rattle.operator_keys.specs.Rules.{leader_not_named, candidate_not_named, target_is_source, paused_without_candidate, scheduled, other_leader, candidate_leads, another_under_way, no_such_candidate, candidate_not_standby, candidate_may_not_fail_over, no_good_candidates, switchover_refusal, failover_refusal}
use Rattle.operator_keys.proofs.Passing.{nobody-is, same-some, first_refusal-none, refused_where-none, not-false, body_of-json, Passed, passed, passed-key}

-- ---- whom a text names
unknown-member : (member : MemberId) → named.Unknown ≡ named.Member member → ⊥
unknown-member member e = cc

nobody-member : (member : MemberId) → named.Nobody ≡ named.Member member → ⊥
nobody-member member e = cc

same-member : (a b : MemberId) → named.Member a ≡ named.Member b → a ≡ b
same-member a b e = cc

some-member : (o : Option MemberId) (member : MemberId) → member_or_unknown o ≡ named.Member member → o ≡ Some member
some-member None member e = absurd (unknown-member member e)
some-member (Some other) member e = ap Some (same-member other member e)

-- the member at a place has the name that was looked for
record StandsAt (place : ℕ) (text : List ℕ) (members : List (Name × Host)) : Type 0 where
  known : Name × Host
  is : slice_get members place ≡ Some known
  called : name_bytes known.0 ≡ text

stands-at : (members : List (Name × Host)) (text : List ℕ) (place : ℕ)
    → position (has_name text) members ≡ Some place → StandsAt place text members
stands-at [] text place e = absurd (nobody-is place e)
stands-at (d ∷ members) text place e =
    let whole = d ∷ members in
    let found = position-Some (has_name text) whole place d e in
    let x = get_or whole place d in
    record {
      known = x;
      is = slice_get-get_or whole place d found.0;
      called = (bytes_eq-Decides (name_bytes x.0) text).0 found.1;
    }

at-place : (o : Option ℕ) (member : MemberId) → option_and_then member_of o ≡ Some member → o ≡ Some member.number
at-place None member e = absurd (nobody-is member e)
at-place (Some place) member e = ap Some (sym (number-member_of place member e))

named-at : (members : List (Name × Host)) (text : List ℕ) (member : MemberId)
    → member_named members text ≡ Some member → StandsAt member.number text members
named-at members text member e =
    stands-at members text member.number (at-place (position (has_name text) members) member e)

-- a member that is named is so by a text, which is its name
record IsNamedBy (o : Option (List ℕ)) (member : MemberId) (members : List (Name × Host)) : Type 0 where
  text : List ℕ
  is : o ≡ Some text
  stands : StandsAt member.number text members

named-by : (members : List (Name × Host)) (o : Option (List ℕ)) (member : MemberId)
    → named_by members o ≡ named.Member member → IsNamedBy o member members
named-by members None member e = absurd (nobody-member member e)
named-by members (Some text) member e = record {
  text = text;
  is = refl;
  stands = named-at members text member (some-member (member_named members text) member e);
}

member_if-some : (who : Named) (member : MemberId) → member_if who ≡ Some member → who ≡ named.Member member
member_if-some named.Nobody member e = absurd (nobody-is member e)
member_if-some named.Unknown member e = absurd (nobody-is member e)
member_if-some (named.Member other) member e = ap named.Member (same-some other member e)

-- ---- one place has one name
one-name : (place : ℕ) (a b : List ℕ) (members : List (Name × Host)) → StandsAt place a members
    → StandsAt place b members → a ≡ b
one-name place a b members x y =
    let same : x.known ≡ y.known = same-some x.known y.known (sym x.is ∙ y.is) in
    sym x.called ∙ ap (λ (k : Name × Host). name_bytes k.0) same ∙ y.called

is-false : (b : Bool) → (b ≡ true → ⊥) → b ≡ false
is-false true h = absurd (h refl)
is-false false h = refl

same-texts : (a b : List ℕ) → a ≡ b → bytes_eq a b ≡ true
same-texts a b e = (bytes_eq-Decides a b).1 e

leads-same : (a b : MemberId) (leader : Option LeaderEntry) → leads a leader ≡ true → leads b leader ≡ true
    → a.number ≡ b.number
leads-same a b None x y = absurd (no (sym x))
leads-same a b (Some leader) x y =
    sym (eqb-true leader.holder.number a.number x) ∙ eqb-true leader.holder.number b.number y

leader-is : (who : Named) (leader : Option LeaderEntry) → names_leader who leader ≡ true
    → (member : MemberId) × (who ≡ named.Member member) × (leads member leader ≡ true)
leader-is named.Nobody leader e = absurd (no (sym e))
leader-is named.Unknown leader e = absurd (no (sym e))
leader-is (named.Member member) leader e = (member, refl, e)

-- who has two names that differ isn't one member
two-names : (members : List (Name × Host)) (one other : Option (List ℕ)) (a b : MemberId)
    → IsNamedBy one a members → IsNamedBy other b members → a.number ≡ b.number → is_same_text one other ≡ true
two-names members one other a b x y e =
    let there : StandsAt b.number x.text members = subst (λ (n : ℕ). StandsAt n x.text members) e x.stands in
    let same : x.text ≡ y.text = one-name b.number x.text y.text members there y.stands in
    rw (x.is, y.is) (same-texts x.text y.text same)

other-one : (body : Data) (members : List (Name × Host)) (leader : Option LeaderEntry) (candidate : MemberId)
    → (asked_by body members).is_same ≡ false → names_leader (asked_by body members).leader leader ≡ true
    → (asked_by body members).candidate ≡ named.Member candidate → leads candidate leader ≡ false
other-one body members leader candidate different names is =
    is-false (leads candidate leader) (λ leading.
    let first = leader-is (asked_by body members).leader leader names in
    let one = named-by members (text_at (codes "leader") body) first.0 first.1 in
    let two = named-by members (text_at (codes "candidate") body) candidate is in
    let number = leads-same first.0 candidate leader first.2 leading in
    no (sym (two-names members (text_at (codes "leader") body)
    (text_at (codes "candidate") body) first.0 candidate one two number)
    ∙ different))

-- ---- what a candidate tells
told-of : (o : Option MemberInfo) → is_none o ≡ false → candidate_may_not_fail_over o ≡ None
    → (info : MemberInfo) × (o ≡ Some info) × (may_fail_over info.tags ≡ true)
told-of None known may = absurd (no known)
told-of (Some info) known may = (
  info,
  refl,
  not-false (may_fail_over info.tags)
      (refused_where-none (not (may_fail_over info.tags)) precondition_failed texts.CandidateMayNotFailOver may),
)

-- what the rules on a candidate leave, where one is named
record IsFit (who : Named) (seen : SnapshotFacts) : Type 0 where
  known : not (is_nobody who) && is_none (info_of who seen) ≡ false
  may : candidate_may_not_fail_over (info_of who seen) ≡ None

follows : (who : Named) (seen : SnapshotFacts) (candidate : MemberId) → IsFit who seen
    → who ≡ named.Member candidate → leads candidate (leader_in seen) ≡ false → MayFollow candidate seen
follows named.Nobody seen candidate fit is other = absurd (nobody-member candidate is)
follows named.Unknown seen candidate fit is other = absurd (unknown-member candidate is)
follows (named.Member member) seen candidate fit is other =
    let same : member ≡ candidate = same-member member candidate is in
    let told = told-of (info_in seen member) fit.known fit.may in
    let there : info_in seen candidate ≡ Some told.0 = ap (λ (m : MemberId). info_in seen m) (sym same) ∙ told.1 in
    record { other = other; info = told.0; told = there; may = told.2 }

nobody-left : (who : Named) (seen : SnapshotFacts) → IsFit who seen → member_if who ≡ None → who ≡ named.Nobody
nobody-left named.Nobody seen fit e = refl
nobody-left named.Unknown seen fit e = absurd (no fit.known)
nobody-left (named.Member member) seen fit e = absurd (no-bar member e)

none-there : (o : Option FailoverKey) → another_under_way o ≡ None → o ≡ None
none-there None e = refl
none-there (Some key) e = absurd (no-bar _ e)

-- ---- which rules on switchovers don't apply
record IsFree (asked : Asked) (seen : SnapshotFacts) : Type 0 where
  different : asked.is_same ≡ false
  running : paused_without_candidate (config_in seen).pause asked.candidate ≡ None
  leader : names_leader asked.leader (leader_in seen) ≡ true
  alone : failover_in seen ≡ None
  fit : IsFit asked.candidate seen
  standby : candidate_not_standby asked.candidate (active_sync_in seen) ≡ None
  anyone : no_good_candidates asked.candidate (anyone_may_take_over seen) ≡ None

free : (asked : Asked) (seen : SnapshotFacts) → switchover_refusal asked seen ≡ None → IsFree asked seen
free asked seen e =
    let first = first_refusal-none (leader_not_named asked.leader) _ e in
    let second = first_refusal-none (target_is_source asked.is_same) _ first.1 in
    let third = first_refusal-none (paused_without_candidate (config_in seen).pause asked.candidate) _ second.1 in
    let fourth = first_refusal-none (scheduled asked.is_scheduled) _ third.1 in
    let fifth = first_refusal-none (other_leader asked.leader (leader_in seen)) _ fourth.1 in
    let sixth = first_refusal-none (another_under_way (failover_in seen)) _ fifth.1 in
    let seventh = first_refusal-none (no_such_candidate asked.candidate (info_of asked.candidate seen)) _ sixth.1 in
    let eighth = first_refusal-none (candidate_not_standby asked.candidate (active_sync_in seen)) _ seventh.1 in
    let ninth = first_refusal-none (candidate_may_not_fail_over (info_of asked.candidate seen)) _ eighth.1 in
    let tenth = first_refusal-none (no_good_candidates asked.candidate (anyone_may_take_over seen)) _ ninth.1 in
    record {
      different = refused_where-none asked.is_same bad_request texts.TargetIsSource second.0;
      running = third.0;
      leader = not-false (names_leader asked.leader (leader_in seen))
          (refused_where-none (not (names_leader asked.leader (leader_in seen))) precondition_failed
          texts.OtherLeader fifth.0);
      alone = none-there (failover_in seen) sixth.0;
      fit = record {
        known = refused_where-none (not (is_nobody asked.candidate) && is_none (info_of asked.candidate seen))
            precondition_failed texts.NoSuchCandidate seventh.0;
        may = ninth.0;
      };
      standby = eighth.0;
      anyone = tenth.0;
    }

-- ---- which rules on failovers don't apply
record IsFreeFailover (asked : Asked) (seen : SnapshotFacts) : Type 0 where
  named : is_nobody asked.candidate ≡ false
  other : names_leader asked.candidate (leader_in seen) ≡ false
  alone : failover_in seen ≡ None
  fit : IsFit asked.candidate seen

free-failover : (asked : Asked) (seen : SnapshotFacts) → failover_refusal asked seen ≡ None → IsFreeFailover asked seen
free-failover asked seen e =
    let first = first_refusal-none (candidate_not_named asked.candidate) _ e in
    let second = first_refusal-none (scheduled asked.is_scheduled) _ first.1 in
    let third = first_refusal-none (candidate_leads asked.candidate (leader_in seen)) _ second.1 in
    let fourth = first_refusal-none (another_under_way (failover_in seen)) _ third.1 in
    let fifth = first_refusal-none (no_such_candidate asked.candidate (info_of asked.candidate seen)) _ fourth.1 in
    let sixth = first_refusal-none (candidate_may_not_fail_over (info_of asked.candidate seen)) _ fifth.1 in
    record {
      named = refused_where-none (is_nobody asked.candidate) bad_request texts.CandidateNotNamed first.0;
      other = refused_where-none (names_leader asked.candidate (leader_in seen)) precondition_failed
          texts.CandidateLeads third.0;
      alone = none-there (failover_in seen) fourth.0;
      fit = record {
        known = refused_where-none (not (is_nobody asked.candidate) && is_none (info_of asked.candidate seen))
            precondition_failed texts.NoSuchCandidate fifth.0;
        may = sixth.0;
      };
    }

-- ---- the laws of switchovers
switchover : (view : AgentView) (bytes : List ℕ) (seen : SnapshotFacts) (key : FailoverKey)
    → switchover_of view bytes ≡ Ok key → option_copied view.seen ≡ Some seen
    → Passed switchover_refusal switchover_key view bytes seen key
switchover view bytes seen key e is = passed switchover_refusal switchover_key view bytes seen key e is

candidate-of : (asked : Asked) (key : FailoverKey) (candidate : MemberId) → switchover_key asked ≡ key
    → key.candidate ≡ Some candidate → asked.candidate ≡ named.Member candidate
candidate-of asked key candidate gives is =
    member_if-some asked.candidate candidate (ap (λ (k : FailoverKey). k.candidate) gives ∙ is)

leader-named : (who : Named) (leader : Option LeaderEntry) → names_leader who leader ≡ true
    → IsSomeAnd (member_if who) (λ member. leads member leader ≡ true)
leader-named named.Nobody leader e = absurd (no (sym e))
leader-named named.Unknown leader e = absurd (no (sym e))
leader-named (named.Member member) leader e = e

pub switchover-leader : (view : AgentView) (bytes : List ℕ) (key : FailoverKey) (seen : SnapshotFacts)
    → switchover_of view bytes ≡ Ok key → option_copied view.seen ≡ Some seen
    → IsSomeAnd key.leader (λ leader. leads leader (leader_in seen) ≡ true)
switchover-leader view bytes key seen e is =
    let p = switchover view bytes seen key e is in
    let asked = asked_by p.body seen.members in
    subst (λ (k : FailoverKey). IsSomeAnd k.leader (λ leader. leads leader (leader_in seen) ≡ true)) p.gives
    (leader-named asked.leader (leader_in seen) (free asked seen p.free).leader)

pub switchover-candidate : (view : AgentView) (bytes : List ℕ) (key : FailoverKey) (seen : SnapshotFacts)
    (candidate : MemberId) → switchover_of view bytes ≡ Ok key → option_copied view.seen ≡ Some seen
    → key.candidate ≡ Some candidate → MayFollow candidate seen
switchover-candidate view bytes key seen candidate e is named_so =
    let p = switchover view bytes seen key e is in
    let asked = asked_by p.body seen.members in
    let f = free asked seen p.free in
    let who = candidate-of asked key candidate p.gives named_so in
    follows asked.candidate seen candidate f.fit who
    (other-one p.body seen.members (leader_in seen) candidate f.different f.leader who)

standby-of : (who : Named) (sync : Option SyncKey) (candidate : MemberId) (key : SyncKey)
    → candidate_not_standby who sync ≡ None → who ≡ named.Member candidate → sync ≡ Some key
    → is_standby candidate key ≡ true
standby-of who None candidate key e is there = absurd (nobody-is key there)
standby-of named.Nobody (Some other) candidate key e is there = absurd (nobody-member candidate is)
standby-of named.Unknown (Some other) candidate key e is there = absurd (unknown-member candidate is)
standby-of (named.Member member) (Some other) candidate key e is there =
    let so : is_standby member other ≡ true = not-false (is_standby member other)
    (refused_where-none (not (is_standby member other)) precondition_failed texts.CandidateNotStandby e) in
    ap (λ (m : MemberId). is_standby m key) (sym (same-member member candidate is))
    ∙ ap (is_standby member) (sym (same-some other key there)) ∙ so

pub switchover-standby : (view : AgentView) (bytes : List ℕ) (key : FailoverKey) (seen : SnapshotFacts)
    (candidate : MemberId) (sync : SyncKey) → switchover_of view bytes ≡ Ok key → option_copied view.seen ≡ Some seen
    → key.candidate ≡ Some candidate → active_sync_in seen ≡ Some sync → is_standby candidate sync ≡ true
switchover-standby view bytes key seen candidate sync e is named_so active =
    let p = switchover view bytes seen key e is in
    let asked = asked_by p.body seen.members in
    standby-of asked.candidate (active_sync_in seen) candidate sync (free asked seen p.free).standby
    (candidate-of asked key candidate p.gives named_so) active

nobody-of : (asked : Asked) (key : FailoverKey) (seen : SnapshotFacts) → IsFit asked.candidate seen
    → switchover_key asked ≡ key → key.candidate ≡ None → asked.candidate ≡ named.Nobody
nobody-of asked key seen fit gives is =
    nobody-left asked.candidate seen fit (ap (λ (k : FailoverKey). k.candidate) gives ∙ is)

anyone-of : (who : Named) (anyone : Bool) → no_good_candidates who anyone ≡ None → who ≡ named.Nobody → anyone ≡ true
anyone-of who true e is = refl
anyone-of who false e is = absurd (no-bar _ (ap (λ w. no_good_candidates w false) (sym is) ∙ e))

pub switchover-anyone : (view : AgentView) (bytes : List ℕ) (key : FailoverKey) (seen : SnapshotFacts)
    → switchover_of view bytes ≡ Ok key → option_copied view.seen ≡ Some seen → key.candidate ≡ None
    → anyone_may_take_over seen ≡ true
switchover-anyone view bytes key seen e is nobody =
    let p = switchover view bytes seen key e is in
    let asked = asked_by p.body seen.members in
    let f = free asked seen p.free in
    anyone-of asked.candidate (anyone_may_take_over seen) f.anyone (nobody-of asked key seen f.fit p.gives nobody)

running-of : (who : Named) (pause : Bool) → paused_without_candidate pause who ≡ None → who ≡ named.Nobody
    → pause ≡ false
running-of who false e is = refl
running-of who true e is = absurd (no-bar _ (ap (paused_without_candidate true) (sym is) ∙ e))

pub switchover-running : (view : AgentView) (bytes : List ℕ) (key : FailoverKey) (seen : SnapshotFacts)
    → switchover_of view bytes ≡ Ok key → option_copied view.seen ≡ Some seen → key.candidate ≡ None
    → (config_in seen).pause ≡ false
switchover-running view bytes key seen e is nobody =
    let p = switchover view bytes seen key e is in
    let asked = asked_by p.body seen.members in
    let f = free asked seen p.free in
    running-of asked.candidate (config_in seen).pause f.running (nobody-of asked key seen f.fit p.gives nobody)

pub switchover-alone : (view : AgentView) (bytes : List ℕ) (key : FailoverKey) (seen : SnapshotFacts)
    → switchover_of view bytes ≡ Ok key → option_copied view.seen ≡ Some seen
    → (failover_in seen ≡ None) × (view.waits ≡ false)
switchover-alone view bytes key seen e is =
    let p = switchover view bytes seen key e is in
    ((free (asked_by p.body seen.members) seen p.free).alone, p.alone)

-- ---- the laws of failovers
failover : (view : AgentView) (bytes : List ℕ) (seen : SnapshotFacts) (key : FailoverKey)
    → failover_of view bytes ≡ Ok key → option_copied view.seen ≡ Some seen
    → Passed failover_refusal failover_key view bytes seen key
failover view bytes seen key e is = passed failover_refusal failover_key view bytes seen key e is

pub failover-leader : (view : AgentView) (bytes : List ℕ) (key : FailoverKey)
    → failover_of view bytes ≡ Ok key → key.leader ≡ None
failover-leader view bytes key e =
    let p = passed-key failover_refusal failover_key view bytes key e in
    ap (λ (k : FailoverKey). k.leader) (sym p.1)

candidate-fit : (who : Named) (seen : SnapshotFacts) → is_nobody who ≡ false → names_leader who (leader_in seen) ≡ false
    → IsFit who seen → IsSomeAnd (member_if who) (λ candidate. MayFollow candidate seen)
candidate-fit named.Nobody seen some other fit = absurd (no some)
candidate-fit named.Unknown seen some other fit = absurd (no fit.known)
candidate-fit (named.Member member) seen some other fit = follows (named.Member member) seen member fit refl other

pub failover-candidate : (view : AgentView) (bytes : List ℕ) (key : FailoverKey) (seen : SnapshotFacts)
    → failover_of view bytes ≡ Ok key → option_copied view.seen ≡ Some seen
    → IsSomeAnd key.candidate (λ candidate. MayFollow candidate seen)
failover-candidate view bytes key seen e is =
    let p = failover view bytes seen key e is in
    let asked = asked_by p.body seen.members in
    let f = free-failover asked seen p.free in
    subst (λ (k : FailoverKey). IsSomeAnd k.candidate (λ candidate. MayFollow candidate seen)) p.gives
    (candidate-fit asked.candidate seen f.named f.other f.fit)

pub failover-alone : (view : AgentView) (bytes : List ℕ) (key : FailoverKey) (seen : SnapshotFacts)
    → failover_of view bytes ≡ Ok key → option_copied view.seen ≡ Some seen
    → (failover_in seen ≡ None) × (view.waits ≡ false)
failover-alone view bytes key seen e is =
    let p = failover view bytes seen key e is in
    ((free-failover (asked_by p.body seen.members) seen p.free).alone, p.alone)

-- ---- whom a key names has the name that the body gives
called : (name : List ℕ) (asked body : Data) (seen : SnapshotFacts) (member : MemberId) → body ≡ asked
    → named_by seen.members (text_at name asked) ≡ named.Member member
    → (text : List ℕ) × (text_at name body ≡ Some text) × IsCalled member text seen
called name asked body seen member same is =
    let by = named-by seen.members (text_at name asked) member is in (
      by.text,
      ap (text_at name) same ∙ by.is,
      record { known = by.stands.known; is = by.stands.is; called = by.stands.called },
    )

pub leader-called : (view : AgentView) (bytes : List ℕ) (body : Data) (key : FailoverKey)
    (seen : SnapshotFacts) (leader : MemberId) → switchover_of view bytes ≡ Ok key → json_of bytes ≡ Some body
    → option_copied view.seen ≡ Some seen → key.leader ≡ Some leader
    → (text : List ℕ) × (text_at (codes "leader") body ≡ Some text) × IsCalled leader text seen
leader-called view bytes body key seen leader e json is named_so =
    let p = switchover view bytes seen key e is in
    let asked = asked_by p.body seen.members in
    called (codes "leader") p.body body seen leader (body_of-json bytes body p.body p.is json)
    (member_if-some asked.leader leader (ap (λ (k : FailoverKey). k.leader) p.gives ∙ named_so))

pub candidate-called : (view : AgentView) (bytes : List ℕ) (body : Data) (key : FailoverKey)
    (seen : SnapshotFacts) (candidate : MemberId) → switchover_of view bytes ≡ Ok key
    → json_of bytes ≡ Some body → option_copied view.seen ≡ Some seen → key.candidate ≡ Some candidate
    → (text : List ℕ) × (text_at (codes "candidate") body ≡ Some text) × IsCalled candidate text seen
candidate-called view bytes body key seen candidate e json is named_so =
    let p = switchover view bytes seen key e is in
    let asked = asked_by p.body seen.members in
    called (codes "candidate") p.body body seen candidate (body_of-json bytes body p.body p.is json)
    (candidate-of asked key candidate p.gives named_so)

pub failover-called : (view : AgentView) (bytes : List ℕ) (body : Data) (key : FailoverKey)
    (seen : SnapshotFacts) (candidate : MemberId) → failover_of view bytes ≡ Ok key
    → json_of bytes ≡ Some body → option_copied view.seen ≡ Some seen → key.candidate ≡ Some candidate
    → (text : List ℕ) × (text_at (codes "candidate") body ≡ Some text) × IsCalled candidate text seen
failover-called view bytes body key seen candidate e json is named_so =
    let p = failover view bytes seen key e is in
    let asked = asked_by p.body seen.members in
    called (codes "candidate") p.body body seen candidate (body_of-json bytes body p.body p.is json)
    (member_if-some asked.candidate candidate (ap (λ (k : FailoverKey). k.candidate) p.gives ∙ named_so))
