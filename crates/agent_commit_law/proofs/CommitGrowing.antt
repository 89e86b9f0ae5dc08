-- Whom commits come to wait for: they waited for them before, or the server is connected to them.
use Rattle.std.proofs.Common.{◌≡◌, ℕ, ◌<◌, Bool, true, false, List, [], ◌∷◌, length, get_or, map, Option, Some, None, slice_get, slice_index_or, zero, suc, refl, sym, ap, ◌∙◌, subst, inl, inr, IsSome}
use Rattle.std.proofs.lemmas.Bool.{cases_lt}
use Rattle.std.proofs.lemmas.List.{get_or_past, length-map}
use Rattle.std.proofs.lemmas.List.FromFn.{length-map-range_with_len}
use Rattle.pat_base.specs.declared.lsn.Lsn.{Lsn}
use Rattle.pat_base.specs.declared.member_id.MemberId.{MemberId}
use Rattle.pat_base.specs.declared.name.Name.{Name}
use Rattle.pat_base.specs.declared.server_state.Required.{Required}
use Rattle.pat_base.specs.declared.server_state.Required.TheVariants as requireds
use Rattle.cluster_view.specs.declared.view.LeaderView.{LeaderView}
use Rattle.cluster_view.specs.KeyValues.{config_in}
use Rattle.cluster_view.specs.Snapshots.{SnapshotFacts}
use Rattle.event_book.specs.Functions.{set_members}
use Rattle.lease_model.proofs.Tools.{both as no-both, none-some, not-false}
use Rattle.commit_actions.specs.Keys.{Confirmers, Nobody, All, AtLeast, Narrows}
use Rattle.commit_actions.specs.Past.{confirmers_in}
use Rattle.cluster_view.specs.Naming.{is_one_of}
use Rattle.sync_state.specs.Published.{published_in}
use Rattle.sync_state.specs.Sets.{nobody, set_of}
use Rattle.sync_state.specs.Standbys.{required_members}
use Rattle.sync_state.specs.Candidates.{candidate_by, candidate_numbered, candidate_where, candidates_in, connected_end, is_wanted, may_sync, name_in, wanted_in}
use Rattle.sync_state.proofs.SetBits.{bit-set_of}
use Rattle.sync_state.proofs.Wanting.{wanted-candidate}
use Rattle.agent_model.specs.Agents.{Outcome}
use Rattle.agent_commit_law.specs.Committing.{GrowsByConnected, ListsMember}
use Rattle.agent_commit_law.proofs.CommitTools.{is-one, no-members, where-one}
use Rattle.std.specs.Int.{bit_at}
use Rattle.pat_base.specs.declared.member_id.TheConstants.{MOST_MEMBERS}

-- who is in a required list is waited for by name
pub required-needs : (required : Required) (n : ℕ) → set_members (required_members required) n ≡ true
    → ListsMember (confirmers_in required) n
required-needs requireds.Nobody n is = absurd (not-false (set_members nobody n) (no-members nobody refl n) is)
required-needs requireds.AnyOne n is = absurd (not-false (set_members nobody n) (no-members nobody refl n) is)
required-needs (requireds.All members) n is = is
required-needs (requireds.AtLeast number of) n is =
    absurd (not-false (set_members nobody n) (no-members nobody refl n) is)

-- a list that shrinks grows by nobody
pub narrows-grows : (o : Outcome) (before after : Confirmers) → Narrows before after → GrowsByConnected o before after
narrows-grows o before Nobody narrows n needs = absurd needs
narrows-grows o Nobody (All after) narrows n needs = absurd narrows
narrows-grows o (All before) (All after) narrows n needs = inl (narrows n needs)
narrows-grows o (AtLeast number before) (All after) narrows n needs = absurd narrows
narrows-grows o Nobody (AtLeast number after) narrows n needs = absurd narrows
narrows-grows o (All before) (AtLeast number after) narrows n needs = absurd narrows
narrows-grows o (AtLeast other before) (AtLeast number after) narrows n needs = absurd narrows

-- who is a candidate is connected
abbrev IsConnectedIn : List (Option Lsn) → ℕ → Type 0
IsConnectedIn connected n = (end : Lsn) × (slice_get connected n ≡ Some (Some end))

end-in : (connected : List (Option Lsn)) (n : ℕ) (end : Lsn) → slice_index_or connected n None ≡ Some end
    → slice_get connected n ≡ Some (Some end)
end-in [] n end is = absurd (none-some end is)
end-in (one ∷ connected) zero end is = ap Some is
end-in (one ∷ connected) (suc n) end is = end-in connected n end is

end-by : (published : Bool) (found : Option Lsn) (name : Option Name)
    → IsSome (candidate_by published found name) → (end : Lsn) × (found ≡ Some end)
end-by published None name is = absurd (no-both is)
end-by published (Some end) name is = (end, refl)

end-where : (may published : Bool) (found : Option Lsn) (name : Option Name)
    → IsSome (candidate_where may (candidate_by published found name)) → (end : Lsn) × (found ≡ Some end)
end-where true published found name is = end-by published found name is
end-where false published found name is = absurd (no-both is)

-- a set of sixteen has members below sixteen
few-wanted : (view : LeaderView) (seen : SnapshotFacts) (n : ℕ) → set_members (wanted_in view seen) n ≡ true
    → n < MOST_MEMBERS
unfolding candidates_in
few-wanted view seen n is =
    let chosen : List Bool =
    map (is_wanted (config_in seen).synchronous_node_count (candidates_in view seen)) (candidates_in view seen) in
    let few : length chosen ≡ MOST_MEMBERS =
    length-map (candidates_in view seen) (is_wanted (config_in seen).synchronous_node_count (candidates_in view seen))
    ∙ length-map-range_with_len (candidate_numbered view seen) 0 16 in
    let on : get_or chosen n false ≡ true =
    where-one (get_or chosen n false) (sym (bit-set_of chosen n) ∙ is-one (bit_at (set_of chosen).bits n) is) in
    elim (cases_lt n (length chosen)) [
      | inl lt ↦ subst (λ (k : ℕ). n < k) few lt
      | inr ge ↦ absurd (not-false (get_or chosen n false) (get_or_past chosen n false ge) on)
    ]

-- a wanted member is a candidate, so it is connected
pub wanted-connected : (view : LeaderView) (seen : SnapshotFacts) (n : ℕ)
    → set_members (wanted_in view seen) n ≡ true → IsConnectedIn view.confirmed_positions n
wanted-connected view seen n is =
    let member : MemberId = record { number = n; below = few-wanted view seen n is } in
    let there = end-where (may_sync member seen) (is_one_of member (published_in seen))
    (connected_end member view) (name_in member seen)
    (wanted-candidate view seen member (is-one (bit_at (wanted_in view seen).bits n) is)) in
    (there.0, end-in view.confirmed_positions n there.0 there.1)
