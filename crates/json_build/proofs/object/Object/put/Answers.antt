use Rattle.serde_json.specs.View.{view}
use Rattle.json_build.proofs.Floats.{kept}
use Rattle.json_build.proofs.object.Object.put.Goals as goal

pub invariant_of-self : goal.invariant_of-self
invariant_of-self c = record {
  no_float = kept c.put.result c.args.name.now (view c.args.value) c.args.self.now.members.entries
      c.put.new.map.entries c.put.ensures.ok c.put.ensures.err c.requires c.args.self.now.no_float;
}
