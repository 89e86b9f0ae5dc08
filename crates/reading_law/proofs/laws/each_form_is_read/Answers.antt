use Rattle.std.proofs.Common.{◌∙◌, ◌++◌}
use Rattle.run_reading.specs.Forms.{words_of}
use Rattle.reading_law.specs.Lines.{acknowledgement_words, commit_words, expiry_words, named_words, refusal_words}
use Rattle.reading_law.proofs.Commits.{acknowledged-read, commits-read}
use Rattle.reading_law.proofs.Forms.{form-read}
use Rattle.reading_law.proofs.Named.{by-words, told_of-words}
use Rattle.reading_law.proofs.Stores.{expires-read, refused-read}
use Rattle.reading_law.proofs.laws.each_form_is_read.Goals as goal

pub returns-clause-named : goal.returns-clause-named
returns-clause-named c tick name happening tail fits is follows =
    told_of-words tick (named_words name happening tail) fits
    ∙ by-words tick name (words_of happening ++ tail) happening (form-read happening tail is follows)

pub returns-clause-expired : goal.returns-clause-expired
returns-clause-expired c tick holder fits = told_of-words tick (expiry_words holder) fits ∙ expires-read tick holder

pub returns-clause-refused : goal.returns-clause-refused
returns-clause-refused c tick kind by why fits =
    told_of-words tick (refusal_words kind by why) fits ∙ refused-read tick kind by why

pub returns-clause-committed : goal.returns-clause-committed
returns-clause-committed c tick serial bytes server fits few small =
    told_of-words tick (commit_words serial bytes server) fits ∙ commits-read tick serial bytes server few small

pub returns-clause-acknowledged : goal.returns-clause-acknowledged
returns-clause-acknowledged c tick serial fits few =
    told_of-words tick (acknowledgement_words serial) fits ∙ acknowledged-read tick serial few
