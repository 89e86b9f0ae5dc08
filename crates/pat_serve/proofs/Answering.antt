-- A connection that was read and answered.
use Rattle.std.proofs.Common.{◌≡◌, ℕ, ◌≤◌, ◌-◌, ◌∷◌, ◌++◌, Bool, true, false, List, [], length, Option, Some, None, Ok, Err, Result, append-nil, refl, ◌∙◌, ap, sym, subst}
use Rattle.std.specs.Prelude.{IfSome, MatchOption, option_map}
use Rattle.std.proofs.lemmas.Bool.{false≢true}
use Rattle.std.specs.declared.alloc.AllocError.{AllocError}
use Rattle.pat_base.specs.declared.member_id.MemberId.{MemberId}
use Rattle.pat_outside.specs.Outside.{Known, Rose}
use Rattle.pat_outside.proofs.Contents.{Rose-earlier}
use Rattle.pat_door.specs.declared.door.Door.{Ghosts}
use Rattle.pat_door.specs.Doors.{DoorCall, DoorFacts, Failed, ReadCounts, Tells, after_hang_up, after_read, after_write, bytes_here, grow_last, grow_last_from}
use Rattle.event_list.specs.Listed.{Listed}
use Rattle.cluster_model.specs.State.{Cluster}
use Rattle.cluster_model.specs.declared.step.Visit.{Visit}
use Rattle.simulation.specs.Steps.{WorldFacts}
use Rattle.rest_answer.specs.declared.refusal.Refusal.{Refusal}
use Rattle.rest_answer.specs.declared.refusal.Refusal.TheVariants as refusals
use Rattle.rest_message.specs.declared.request.Request.{Request}
use Rattle.rest_message.specs.Replies.{ReplyText}
use Rattle.rest_reply.specs.Replies.{reply_bytes}
use Rattle.serve_model.specs.Connections.{Connection, Course, IsSent, Unread, Whole, asks_for_a_head, bytes_due, failure_steps, first_visit, read_steps, replied, replied_steps, reply_to}
use Rattle.rest_connection.specs.Connections.{ReadsToAnswer}
use Rattle.pat_serve.specs.Serving.{Answers, Brings, IsRead, Serves, calls_by, course_of, is_unread}
use Rattle.pat_serve.proofs.Bringing.{Brings-then}

-- a connection that asks this, and went so
abbrev pub connection_of : Result Request Refusal → Course → Connection
connection_of asks course = record { asks = asks; course = course }

-- what holds of what is there
pub of-some : {X : Type 0} (found : Option X) (x : X) (P : X → Type 0) → found ≡ Some x → IfSome found P → P x
of-some {X = X} found x P is holds = subst (λ (o : Option X). IfSome o P) is holds

-- the same of what may be there or not
pub match-some : {X : Type 0} (found : Option X) (x : X) (N : Type 0) (P : X → Type 0) → found ≡ Some x
    → MatchOption found N P → P x
match-some found x N P is holds = subst (λ o. MatchOption o N P) is holds

pub match-none : {X : Type 0} (found : Option X) (N : Type 0) (P : X → Type 0) → found ≡ None
    → MatchOption found N P → N
match-none found N P is holds = subst (λ o. MatchOption o N P) is holds

pub early-so : {D : Type 0} (door : Ghosts D) (was now : D) {failed same : Bool} → failed ≡ same
    → ReadsToAnswer door was now failed → ReadsToAnswer door was now same
early-so door was now is early = subst (ReadsToAnswer door was now) is early

not-unread : (whole : Bool) → course_of whole ≡ Unread → ⊥
not-unread true e = cc
not-unread false e = cc

not-whole : (whole : Bool) → (course_of whole ≡ Whole → ⊥) → whole ≡ false
not-whole true other = absurd (other refl)
not-whole false other = refl

nothing-more : (first : List ℕ) (more : List (List ℕ)) → grow_last_from [] first more ≡ first ∷ more
nothing-more first [] = ap (λ l. l ∷ []) (append-nil first)
nothing-more first (second ∷ more) = ap (λ l. first ∷ l) (nothing-more second more)

-- nothing was answered
pub grow_last-nothing : (answered : List (List ℕ)) → grow_last [] answered ≡ answered
grow_last-nothing [] = refl
grow_last-nothing (first ∷ more) = nothing-more first more

-- the bytes of what was replied are those that are due
pub due-is : (cluster : Cluster) (id : MemberId) (asks : Result Request Refusal) (visit : Visit)
    (text : ReplyText) (head : Bool) → visit ≡ first_visit asks
    → text ≡ replied cluster id (replied_steps cluster id visit) → head ≡ asks_for_a_head asks
    → reply_bytes text head ≡ bytes_due cluster id (record { asks = asks; course = Whole })
due-is cluster id asks visit text head first is heads =
    ap (λ (t : ReplyText). reply_bytes t head)
    (is ∙ ap (λ (v : Visit). replied cluster id (replied_steps cluster id v)) first)
    ∙ ap (reply_bytes (reply_to cluster id (record { asks = asks; course = Whole }))) heads

-- a reply was not written whole
pub not-written : {D : Type 0} (takes : D → ℕ → Type 0) (was : D) (size : ℕ) (result : Result Bool AllocError)
    (whole : Bool) → result ≡ Ok whole → whole ≡ false
    → ((n : ℕ) → takes was n → size ≤ n → (result ≡ Ok false → ⊥)) → (n : ℕ) → takes was n → size ≤ n → ⊥
not-written takes was size result whole is not room = λ n can fits. room n can fits (is ∙ ap Ok not)

-- what was sent, by whether that was all
pub sent-so : (told after : Option DoorFacts) (bytes : List ℕ) {whole all : Bool} → whole ≡ all
    → Tells told
    (λ facts. (sent : List ℕ) × IsSent (course_of whole) bytes sent × (after ≡ Some (after_write sent facts)))
    → Tells told
    (λ facts. (sent : List ℕ) × IsSent (course_of all) bytes sent × (after ≡ Some (after_write sent facts)))
sent-so told after bytes is sent =
    subst (λ (w : Bool).
    Tells told (λ facts. (sent : List ℕ) × IsSent (course_of w) bytes sent × (after ≡ Some (after_write sent facts))))
    is sent

-- what a door was called for, by whether that was all
pub heard-so : {D : Type 0} (door : Ghosts D) (now : D) (calls : List DoorCall) {whole all : Bool} → whole ≡ all
    → door.heard now (calls_by (course_of whole) calls) → door.heard now (calls_by (course_of all) calls)
heard-so door now calls is heard = subst (λ (w : Bool). door.heard now (calls_by (course_of w) calls)) is heard

module _ {D : Type 0} (door : Ghosts D) (was now : D) (world then : WorldFacts) (had has : List Listed)
    (id : MemberId) (asks : Result Request Refusal) where
  -- a connection that asks this
  abbrev asking : Course → Connection
  asking course = record { asks = asks; course = course }

  -- the bytes that are written are due
  abbrev IsDue : List ℕ → Type 0
  IsDue bytes = bytes ≡ bytes_due world.cluster id (asking Whole)

  -- what was written of them, by whether that was all
  abbrev WasSent : Bool → List ℕ → Type 0
  WasSent whole bytes = Tells (door.told was)
      (λ facts. (sent : List ℕ) × IsSent (course_of whole) bytes sent × (door.told now ≡ Some (after_write sent facts)))

  -- the whole reply was written
  pub answers-whole : (bytes : List ℕ) → IsDue bytes
      → Brings world then had has (read_steps world.cluster id (asking Whole)) → WasSent true bytes
      → ((n : ℕ) → door.has_room was n → door.has_room now (n - length bytes))
      → ((calls : List DoorCall) → door.heard was calls → door.heard now calls)
      → ((counts : ReadCounts) → door.has_read was counts → door.has_read now counts)
      → Answers door was now world then had has id asks true
  answers-whole bytes due brings sent spare heard counts = record {
    brings = brings;
    sends = λ facts there. let s = sent facts there in (s.0, s.1 ∙ due, s.2);
    fails = λ e. cc;
    writes = λ n takes fits. refl;
    spare = λ n has whole. subst (λ (l : List ℕ). door.has_room now (n - length l)) due (spare n has);
    heard = heard;
    counts = counts;
  }

  -- a front of it was
  pub answers-front : (bytes : List ℕ) (mid : WorldFacts) (between : List Listed) → IsDue bytes
      → Brings world mid had between (read_steps world.cluster id (asking Whole))
      → Brings mid then between has (failure_steps id) → WasSent false bytes
      → Rose (door.connection_faults was) (door.connection_faults now)
      → ((n : ℕ) → door.takes was n → length bytes ≤ n → ⊥)
      → ((calls : List DoorCall) → door.heard was calls → door.heard now (calls ++ Failed ∷ []))
      → ((counts : ReadCounts) → door.has_read was counts → door.has_read now counts)
      → Answers door was now world then had has id asks false
  answers-front bytes mid between due first last sent rose room heard counts = record {
    brings = Brings-then world mid then had between has (read_steps world.cluster id (asking Whole))
        (failure_steps id) first last;
    sends = λ facts there. let s = sent facts there in (s.0, (s.1.0, s.1.1 ∙ due), s.2);
    fails = λ e. rose;
    writes = λ n takes fits. absurd (room n takes (subst (λ (l : List ℕ). length l ≤ n) (sym due) fits));
    spare = λ n has whole. absurd (false≢true whole);
    heard = heard;
    counts = counts;
  }

-- what was read by the time that a connection is answered stays read
later-read : {D : Type 0} (door : Ghosts D) (was mid now : D) (failed : Bool) → ReadsToAnswer door was mid failed
    → ((counts : ReadCounts) → door.has_read mid counts → door.has_read now counts)
    → ReadsToAnswer door was now failed
later-read door was mid now failed early stays = record {
  unanswered = λ counts has.
      let e = early.unanswered counts has in
      (e.0, stays e.0 e.1, e.2);
}

was-read : (whole : Bool) → is_unread (course_of whole) ≡ false
was-read true = refl
was-read false = refl

is-whole : (whole : Bool) → course_of whole ≡ Whole → whole ≡ true
is-whole true e = refl
is-whole false e = cc

unread-is-not-whole : Unread ≡ Whole → ⊥
unread-is-not-whole e = cc

-- what was read of a connection was answered
pub serves-answered : {D : Type 0} (door : Ghosts D) (was mid now : D) (world then : WorldFacts)
    (had has : List Listed) (id : MemberId) (asks : Result Request Refusal) (whole : Bool)
    → Known (bytes_here (door.told was)) (λ all. IsRead all asks)
    → Tells (door.told was) (λ facts. (count : ℕ) × (door.told mid ≡ Some (after_read count facts)))
    → door.connection_faults was ≤ door.connection_faults mid → ((n : ℕ) → door.takes was n → door.takes mid n)
    → ReadsToAnswer door was mid false → ((n : ℕ) → door.has_room was n → door.has_room mid n)
    → ((calls : List DoorCall) → door.heard was calls → door.heard mid calls)
    → Answers door mid now world then had has id asks whole
    → Serves door was now (option_map after_hang_up (door.told now)) world.cluster id
    (record { asks = asks; course = course_of whole })
serves-answered door was mid now world then had has id asks whole read left grows takes early spare heard a = record {
  asks = λ not. read;
  sends = λ facts there.
      let l = left facts there in
      let s = a.sends (after_read l.0 facts) l.1 in
      (s.0, s.1, ap (option_map after_hang_up) s.2);
  fails = λ other. Rose-earlier _ _ _ grows (a.fails (not-whole whole other));
  reads = λ n can e. not-unread whole e;
  writes = λ n can fits. ap course_of (a.writes n (takes n can) fits);
  spare = λ n can all. a.spare n (spare n can) (is-whole whole all);
  early = subst (ReadsToAnswer door was now) (sym (was-read whole)) (later-read door was mid now false early a.counts);
  heard = λ calls had. a.heard calls (heard calls had);
}

-- a connection that couldn't be read
abbrev pub unread : Connection
unread = record { asks = Err refusals.BadHead; course = Unread }

pub serves-unread : {D : Type 0} (door : Ghosts D) (was now : D) (cluster : Cluster) (id : MemberId)
    → Tells (door.told was) (λ facts. (count : ℕ) × (door.told now ≡ Some (after_read count facts)))
    → Rose (door.connection_faults was) (door.connection_faults now) → ((n : ℕ) → door.takes was n → ⊥)
    → ReadsToAnswer door was now true
    → ((calls : List DoorCall) → door.heard was calls → door.heard now (calls ++ Failed ∷ []))
    → Serves door was now (option_map after_hang_up (door.told now)) cluster id unread
serves-unread door was now cluster id left rose none early heard = record {
  asks = λ not. absurd (not refl);
  sends = λ facts there.
      let l = left facts there in (
        [],
        refl,
        ap (option_map after_hang_up) l.1
            ∙ ap (λ (answered : List (List ℕ)).
            Some (record { coming = facts.coming; here = None; answered = answered }))
            (sym (grow_last-nothing facts.answered)),
      );
  fails = λ other. rose;
  reads = λ n can e. none n can;
  writes = λ n can fits. absurd (none n can);
  spare = λ n can whole. absurd (unread-is-not-whole whole);
  early = early;
  heard = heard;
}

hung-up : (first second : Option DoorFacts) (facts : DoorFacts) → Tells first (λ f. second ≡ Some (after_hang_up f))
    → option_map after_hang_up first ≡ Some (after_hang_up facts) → second ≡ Some (after_hang_up facts)
hung-up None second facts after is = absurd (none-is-some is)
  where
    none-is-some : ◌≡◌ {A = Option DoorFacts} None (Some (after_hang_up facts)) → ⊥
    none-is-some e = cc
hung-up (Some f) second facts after is = after f refl ∙ is

-- a connection that was served is ended
pub serves-ended : {D : Type 0} (door : Ghosts D) (was mid now : D) (cluster : Cluster) (id : MemberId)
    (connection : Connection)
    → Serves door was mid (option_map after_hang_up (door.told mid)) cluster id connection
    → Tells (door.told mid) (λ facts. door.told now ≡ Some (after_hang_up facts))
    → door.connection_faults now ≡ door.connection_faults mid
    → ((n : ℕ) → door.has_room mid n → door.has_room now n)
    → ((calls : List DoorCall) → door.heard mid calls → door.heard now calls)
    → ((counts : ReadCounts) → door.has_read mid counts → door.has_read now counts)
    → Serves door was now (door.told now) cluster id connection
serves-ended door was mid now cluster id connection s after same spare heard counts = record {
  asks = s.asks;
  sends = λ facts there. let e = s.sends facts there in
      (e.0, e.1, hung-up (door.told mid) (door.told now) (after_write e.0 facts) after e.2);
  fails = λ other. subst (Rose (door.connection_faults was)) (sym same) (s.fails other);
  reads = s.reads;
  writes = s.writes;
  spare = λ n can whole. spare _ (s.spare n can whole);
  early = later-read door was mid now (is_unread connection.course) s.early counts;
  heard = λ calls had. heard _ (s.heard calls had);
}
