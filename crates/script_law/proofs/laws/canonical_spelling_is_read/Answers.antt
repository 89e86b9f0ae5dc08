use Rattle.script_law.proofs.CanonLaws.{spelling-Spells, spelling-is-read}
use Rattle.script_grammar.proofs.ReadLaws.{read-is-spelled}
use Rattle.script_law.proofs.SaidConfigs.{spelled-IsSaid}
use Rattle.script_law.proofs.laws.canonical_spelling_is_read.Goals as goal

pub returns-clause-again : goal.returns-clause-again
returns-clause-again c = λ bytes text read.
    let was = read-is-spelled bytes text read in
    let said = spelled-IsSaid bytes text was.1 in (
      spelling-Spells text was.0 said.configuration said.short,
      spelling-is-read text was.0 said.configuration said.short,
    )

pub returns-clause-readable : goal.returns-clause-readable
returns-clause-readable c = λ text is configuration short.
    (spelling-Spells text is configuration short, spelling-is-read text is configuration short)
