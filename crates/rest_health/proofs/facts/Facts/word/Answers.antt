use Rattle.rest_health.proofs.WordBits.{facts_of-word, word_of-lt}
use Rattle.rest_health.proofs.facts.Facts.word.Goals as goal

pub returns-clause-facts : goal.returns-clause-facts
returns-clause-facts c =
    rw (
      c.bit_if.ensures,
      c.bit_if-2.ensures,
      c.bit_if-3.ensures,
      c.bit_if-4.ensures,
      c.bit_if-5.ensures,
      c.bit_if-6.ensures,
      c.bit_if-7.ensures,
      c.bit_if-8.ensures,
    )
    (facts_of-word c.args.self)

pub returns-clause-no_others : goal.returns-clause-no_others
returns-clause-no_others c =
    rw (
      c.bit_if.ensures,
      c.bit_if-2.ensures,
      c.bit_if-3.ensures,
      c.bit_if-4.ensures,
      c.bit_if-5.ensures,
      c.bit_if-6.ensures,
      c.bit_if-7.ensures,
      c.bit_if-8.ensures,
    )
    (word_of-lt c.args.self)
