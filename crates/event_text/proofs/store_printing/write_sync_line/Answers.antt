use Rattle.std.proofs.Common.{◌≡◌, List, ℕ, ◌++◌, codes, OnOk, string_bytes, append_assoc, ap, ◌∙◌, subst}
use Rattle.std.specs.Fmt.{decimal}
use Rattle.pat_base.specs.declared.name.Name.{Name}
use Rattle.pat_base.specs.Name.{name_bytes}
use Rattle.event_book.specs.Listing.{listed}
use Rattle.event_book.specs.StoreText.{quorum_end}
use Rattle.event_text.proofs.store_printing.write_sync_line.Goals as goal

-- what stands before a list, and the list, are appended as one
as-one : (before moment name word names : List ℕ)
    → (before ++ (moment ++ (codes " " ++ (name ++ word)))) ++ names
    ≡ before ++ (moment ++ (codes " " ++ (name ++ (word ++ names))))
as-one before moment name word names =
    append_assoc before (moment ++ (codes " " ++ (name ++ word))) names
    ∙ ap (λ t. before ++ t)
    (append_assoc moment (codes " " ++ (name ++ word)) names
    ∙ ap (λ t. moment ++ (codes " " ++ t)) (append_assoc name word names))

pub returns-in_ok-write-in-SetSync : goal.returns-in_ok-write-in-SetSync
returns-in_ok-write-in-SetSync c =
    let text = λ (names : List Name). listed (codes "none") names ++ quorum_end c.in-SetSync.quorum in
    let same = ap (λ names. string_bytes c.write.new.self ++ text names) c.as_slice.ensures
    ∙ ap (λ t. t ++ text c.args.standbys.now) c.in_ok-write-in-SetSync.ensures.bytes
    ∙ as-one (string_bytes c.args.line.now) (decimal c.args.tick.0) (name_bytes c.args.name)
    (codes " publishes sync standbys ") (text c.args.standbys.now) in
    rw c.in-SetSync.is
    (subst (λ (t : List ℕ). OnOk c.end_by_published.result (string_bytes c.end_by_published.new.line ≡ t)) same
    c.end_by_published.ensures)

pub returns-in-DropSync : goal.returns-in-DropSync
returns-in-DropSync c = rw c.in-DropSync.is c.write_named_line-in-DropSync.ensures

pub returns-in-Claim : goal.returns-in-Claim
returns-in-Claim c = rw c.in-Claim.is c.write_named_line.ensures
