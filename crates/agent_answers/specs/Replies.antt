-- Whom an input answers.
use Rattle.std.specs.Prelude.{ℕ, ◌≡◌}
use Rattle.pat_base.specs.declared.member_id.MemberId.{MemberId}
use Rattle.agent_model.specs.declared.heard.Heard.{Heard}
use Rattle.agent_model.specs.declared.heard.Heard.TheVariants.{Asked, FailsafeAsked}
use Rattle.agent_model.specs.declared.output.Output.{Output}
use Rattle.agent_model.specs.declared.output.Output.TheVariants as outputs
use Rattle.agent_model.specs.declared.output.Outgoing.TheVariants as outgoing

-- this member asked, under this number of that run of its agent
abbrev pub IsAskOf : MemberId → ℕ → ℕ → Heard → Type 0
IsAskOf member incarnation sequence (Asked from asked number) =
    (member ≡ from) × (incarnation ≡ asked) × (sequence ≡ number)
IsAskOf member incarnation sequence _ = ⊥

-- this member asked to stay primary, under this number of that run of its agent
abbrev pub IsFailsafeAskOf : MemberId → ℕ → ℕ → Heard → Type 0
IsFailsafeAskOf member incarnation sequence (FailsafeAsked from asked number ttl) =
    (member ≡ from) × (incarnation ≡ asked) × (sequence ≡ number)
IsFailsafeAskOf member incarnation sequence _ = ⊥

-- an answer goes to the member that asks, under the incarnation and the number of its ask
abbrev pub RepliesTo : Heard → Output → Type 0
RepliesTo heard (outputs.Message (outgoing.Answer to incarnation sequence answer)) =
    IsAskOf to incarnation sequence heard
RepliesTo heard (outputs.Message (outgoing.FailsafeAnswer to incarnation sequence accepted)) =
    IsFailsafeAskOf to incarnation sequence heard
RepliesTo heard _ = Unit {0}
