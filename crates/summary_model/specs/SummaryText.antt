-- The text of the summary.
use Rattle.std.specs.Prelude.{ℕ, List, [], ◌∷◌, ◌++◌, Option, Some, None, codes}
use Rattle.std.specs.BTreeSet.{insert_key}
use Rattle.std.specs.Fmt.{decimal}
use Rattle.pat_base.specs.declared.name.Name.{Name}
use Rattle.pat_base.specs.Name.{name_bytes}
use Rattle.event_book.specs.Listing.{listed}
use Rattle.event_book.specs.NameLists.{name_cmp}
use Rattle.summary_model.specs.declared.answers.Breach.{Breach}
use Rattle.summary_model.specs.declared.answers.Breach.TheVariants as breaches
use Rattle.summary_model.specs.declared.answers.Closing.{Closing}
use Rattle.summary_model.specs.declared.answers.FirstMoment.{FirstMoment}
use Rattle.summary_model.specs.declared.answers.FirstMoment.TheVariants as moments
use Rattle.summary_model.specs.declared.answers.Premises.{Premises}
use Rattle.summary_model.specs.declared.answers.Premises.TheVariants as premises
use Rattle.summary_model.specs.declared.answers.Synchronous.{Synchronous}
use Rattle.summary_model.specs.declared.answers.Synchronous.TheVariants as synchronous

-- why nothing is promised of the writers any more
abbrev pub breach_text : Breach → List ℕ
breach_text (breaches.Watchdog name) = codes "the watchdog of " ++ name_bytes name
breach_text (breaches.LateWatchdog name) = codes "a late watchdog of " ++ name_bytes name
breach_text breaches.Pause = codes "a pause"
breach_text (breaches.Operator name) = codes "an operator on " ++ name_bytes name

-- whether the premises were met
abbrev pub premises_text : Premises → List ℕ
premises_text premises.Met = codes "met"
premises_text (premises.Broken tick why) = codes "broken at " ++ (decimal tick.0 ++ (codes " by " ++ breach_text why))

-- whether the cluster replicated synchronously
abbrev pub synchronous_text : Synchronous → List ℕ
synchronous_text synchronous.On = codes "on"
synchronous_text synchronous.Off = codes "off"
synchronous_text (synchronous.Broken tick) = codes "broken at " ++ decimal tick.0

-- when something was so for the first time
abbrev pub first_text : FirstMoment → List ℕ
first_text moments.Never = codes "never"
first_text (moments.At tick) = codes "first at " ++ decimal tick.0

-- names in order, with this one at its place, if there is one
abbrev pub with_writer : List Name → Option Name → List Name
with_writer names None = names
with_writer names (Some name) = insert_key name_cmp names name

-- names in order, with these at their places
abbrev pub sorted_from : List Name → List (Option Name) → List Name
sorted_from names [] = names
sorted_from names (writer ∷ writers) = sorted_from (with_writer names writer) writers

-- the four lines up to the claim of one writer
abbrev pub claims_text : Closing → List ℕ
claims_text closing =
    codes "end at "
    ++ (decimal closing.end.0
    ++ (codes "\npremises "
    ++ (premises_text closing.premises
    ++ (codes "\nsynchronous " ++ (synchronous_text closing.synchronous
    ++ (codes "\ntwo writers " ++ (first_text closing.two_writers ++ codes "\n")))))))

-- the three lines from this list of writers on
abbrev pub counts_text : Closing → List ℕ → List ℕ
counts_text closing writers = codes "writers "
    ++ (writers
    ++ (codes "\nacknowledged "
    ++ (decimal closing.acknowledged ++ (codes "\nlost " ++ (first_text closing.lost ++ codes "\n")))))

-- the seven lines of the summary, which lists the writers in byte order
abbrev pub closing_text : Closing → List ℕ
closing_text closing =
    claims_text closing ++ counts_text closing (listed (codes "none") (sorted_from [] closing.writers))
