use Rattle.pat_cases.proofs.FirstMatch.{answers-first, first-answers}
use Rattle.pat_cases.proofs.laws.the_first_match_answers.Goals as goal

pub returns-clause-answered : goal.returns-clause-answered
returns-clause-answered c = answers-first

pub returns-clause-answers : goal.returns-clause-answers
returns-clause-answers c = first-answers
