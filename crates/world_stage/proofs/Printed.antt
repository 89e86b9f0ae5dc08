-- The lines that patronictl prints change nothing.
use Rattle.std.proofs.Common.{◌≡◌, ℕ, ◌+◌, length, List, [], ◌∷◌, ◌++◌, map, arith, refl, ◌∙◌, ap, sym}
use Rattle.std.specs.Prelude.{String, string_bytes}
use Rattle.std.specs.declared.alloc.Global.{Global}
use Rattle.std.proofs.lemmas.List.{map-append}
use Rattle.pat_base.specs.declared.ticks.Ticks.{Ticks}
use Rattle.event_book.specs.declared.event.Event.{Event}
use Rattle.event_book.specs.declared.event.EventKind.TheVariants as kinds
use Rattle.event_book.specs.declared.event.Note.TheVariants.{CtlLine}
use Rattle.event_list.specs.Listed.{Listed, ◌+++◌}
use Rattle.event_list.proofs.Appended.{appended_assoc}
use Rattle.cluster_model.specs.Cluster.{cluster_over}
use Rattle.cluster_model.specs.Next.{ctl_line_events}
use Rattle.cluster_model.specs.Parts.{each}
use Rattle.cluster_model.specs.State.{Cluster}
use Rattle.world_model.specs.Emits.{Emits}
use Rattle.world_model.proofs.Rooms.{HasRoom-fewer}

-- a line that is printed at a moment
abbrev printed_at : Ticks → List ℕ → Event
printed_at tick text = record { tick = tick; kind = kinds.Note (CtlLine text) }

-- a line that is printed, at the moment of a cluster
abbrev pub printed : Cluster → String Global → Event
printed cluster line = printed_at (record { 0 = cluster.facts.clock }) (string_bytes line)

printed-each : (cluster : Cluster) (lines : List (String Global))
    → each ctl_line_events cluster (map string_bytes lines) ≡ map (printed cluster) lines
printed-each cluster [] = refl
printed-each cluster (line ∷ lines) = ap (λ es. printed cluster line ∷ es) (printed-each cluster lines)

printed-still : (cluster : Cluster) (lines : List (String Global))
    → cluster_over cluster (map (printed cluster) lines) ≡ cluster
printed-still cluster [] = refl
printed-still cluster (line ∷ lines) = printed-still cluster lines

-- they were written down
pub printed-took : (cluster : Cluster) (lines : List (String Global)) (had has : Listed)
    → has ≡ had +++ map (printed cluster) lines
    → Emits cluster cluster had has (each ctl_line_events cluster (map string_bytes lines)) 0
printed-took cluster lines had has is = record {
  state = sym (ap (cluster_over cluster) (printed-each cluster lines) ∙ printed-still cluster lines);
  event = is ∙ ap (λ es. had +++ es) (sym (printed-each cluster lines));
  room = λ more room. HasRoom-fewer cluster (0 + more) more (omega arith) room;
}

-- one more is written down
pub printed-more : (cluster : Cluster) (first had has : Listed) (done : List (String Global))
    (line : String Global) (tick : Ticks) (text : List ℕ) → had ≡ first +++ map (printed cluster) done
    → has ≡ had +++ record { tick = tick; kind = kinds.Note (CtlLine text) } ∷ [] → tick.0 ≡ cluster.facts.clock
    → text ≡ string_bytes line → has ≡ first +++ map (printed cluster) (done ++ line ∷ [])
printed-more cluster first had has done line tick text was is at said =
    let same : printed_at tick text ≡ printed cluster line = ap (λ (n : ℕ). printed_at (record { 0 = n }) text) at
    ∙ ap (λ (t : List ℕ). printed_at (record { 0 = cluster.facts.clock }) t) said in
    is ∙ ap (λ e. had +++ e ∷ []) same ∙ ap (λ es. es +++ printed cluster line ∷ []) was
    ∙ appended_assoc first (map (printed cluster) done) (printed cluster line ∷ [])
    ∙ ap (λ es. first +++ es) (sym (map-append (printed cluster) done (line ∷ [])))

-- none is left
pub none-left : (lines : List (String Global)) (count : ℕ) → count ≡ length lines → count ≡ 0 → lines ≡ []
none-left [] count is none = refl
none-left (line ∷ lines) count is none = absurd (omega (arith, is, none))
