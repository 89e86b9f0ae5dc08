use Rattle.json_build.proofs.Floats.{pushed}
use Rattle.json_build.proofs.list.List.push.Goals as goal

pub invariant_of-self : goal.invariant_of-self
invariant_of-self c = record {
  no_float = pushed c.push.result c.args.value c.args.self.now.items.items c.push.new.list.items
      c.push.ensures.ok c.push.ensures.err c.requires c.args.self.now.no_float;
}
