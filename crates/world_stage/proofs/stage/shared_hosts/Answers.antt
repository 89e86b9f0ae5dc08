use Rattle.std.proofs.Common.{◌≡◌, Result, Ok, Err, IfOk, ◌∙◌, ap}
use Rattle.cluster_model.specs.Machines.{hosts_of}
use Rattle.world_stage.proofs.stage.shared_hosts.Goals as goal

-- what is so of what a call gives is so of what follows from it
if-ok : {T E : Type 0} (r : Result T E) (P Q : T → Type 0) → ((x : T) → P x → Q x) → IfOk r P → IfOk r Q
if-ok (Ok x) P Q f p = f x p
if-ok (Err e) P Q f p = tt

pub returns : goal.returns
returns c =
    if-ok c.new.result (λ shared. shared ≡ c.in_ok-hosts_of.field-0)
    (λ hosts. hosts.items ≡ hosts_of c.args.options.now c.args.members.now)
    (λ shared same. ap (λ v. v.items) same ∙ c.in_ok-hosts_of.ensures) c.new.ensures
