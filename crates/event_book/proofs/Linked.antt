-- What cuts and joins say of links.
use Rattle.std.proofs.Common.{ℕ, ◌≡◌, ◌≢◌, ◌+◌, ◌*◌, ◌<◌, ◌==◌, ◌&&◌, ◌||◌, not, min, max, Bool, true, false, [], ◌∷◌, zero, suc, length, get_or, set, refl, ◌∙◌, ap, arith}
use Rattle.std.proofs.lemmas.Bool.Decides.{nat_tests}
use Rattle.std.proofs.lemmas.Grind.{get_or-set_at}
use Rattle.std.proofs.lemmas.List.{get_or-replicate, get_or-set_other, length-set, length-replicate}
use Rattle.event_book.specs.declared.event.EventKind.{EventKind}
use Rattle.event_book.specs.declared.event.EventKind.TheVariants as kinds
use Rattle.event_book.specs.declared.event.LinkEvent.TheVariants as links
use Rattle.event_book.specs.declared.link.Link.{Link}
use Rattle.event_book.specs.declared.link.LinkEnd.{LinkEnd}
use Rattle.event_book.specs.declared.link.LinkEnd.TheVariants as link_ends
use Rattle.event_book.specs.Links.{CutLinks, cuts_after, end_number, is_cut, is_same_link, link_place, none_cut, place_count}

end-within : (end : LinkEnd) → end_number end < 17
end-within link_ends.Store = omega arith
end-within (link_ends.Member member) = omega (arith, member.id.below)

place-within : (m n : ℕ) → m < 17 → n < 17 → min m n * 17 + max m n < 289
place-within m n first second = omega arith

pair-same : (m n p q : ℕ) → (((m == p) && (n == q)) || ((m == q) && (n == p))) ≡ true
    → min p q * 17 + max p q ≡ min m n * 17 + max m n
pair-same m n p q same = grind (arith, nat_tests)

pair-other : (m n p q : ℕ) → m < 17 → n < 17 → p < 17 → q < 17
    → (((m == p) && (n == q)) || ((m == q) && (n == p))) ≡ false → min p q * 17 + max p q ≢ min m n * 17 + max m n
pair-other m n p q a b c d other e = grind (arith, nat_tests)

same-place : (a b : Link) → is_same_link a b ≡ true → link_place b ≡ link_place a
same-place a b same =
    pair-same (end_number a.first) (end_number a.second) (end_number b.first) (end_number b.second) same

other-place : (a b : Link) → is_same_link a b ≡ false → link_place b ≢ link_place a
other-place a b other =
    pair-other (end_number a.first) (end_number a.second) (end_number b.first) (end_number b.second)
    (end-within a.first) (end-within a.second) (end-within b.first) (end-within b.second) other

link-within : (link : Link) → link_place link < place_count
link-within link =
    place-within (end_number link.first) (end_number link.second) (end-within link.first) (end-within link.second)

pub none-cut : (link : Link) → is_cut none_cut link ≡ false
unfolding none_cut
none-cut link = get_or-replicate place_count (link_place link) false false (link-within link)

pub none-whole : length none_cut ≡ place_count
unfolding none_cut
none-whole = length-replicate place_count false

pub cut-told : (cuts : CutLinks) (cut link : Link) → length cuts ≡ place_count
    → is_cut (cuts_after cuts (kinds.Link (links.Cut cut))) link ≡ (is_same_link cut link || is_cut cuts link)
cut-told cuts cut link whole = by (is_same_link cut link) refl
  where
    by : (same : Bool) → is_same_link cut link ≡ same
        → get_or (set cuts (link_place cut) true) (link_place link) false ≡ (same || is_cut cuts link)
    by true is = get_or-set_at cuts (link_place cut) (link_place link) true false (same-place cut link is)
        (omega (arith, whole, link-within cut))
    by false is = get_or-set_other cuts (link_place cut) (link_place link) true false (other-place cut link is)

cleared : (cuts : CutLinks) (place : ℕ) → get_or (set cuts place false) place false ≡ false
cleared [] place = refl
cleared (cut ∷ cuts) zero = refl
cleared (cut ∷ cuts) (suc place) = cleared cuts place

pub joined-told : (cuts : CutLinks) (joined link : Link)
    → is_cut (cuts_after cuts (kinds.Link (links.Joined joined))) link
    ≡ (not (is_same_link joined link) && is_cut cuts link)
joined-told cuts joined link = by (is_same_link joined link) refl
  where
    by : (same : Bool) → is_same_link joined link ≡ same
        → get_or (set cuts (link_place joined) false) (link_place link) false ≡ (not same && is_cut cuts link)
    by true is = ap (λ place. get_or (set cuts (link_place joined) false) place false) (same-place joined link is)
        ∙ cleared cuts (link_place joined)
    by false is = get_or-set_other cuts (link_place joined) (link_place link) false false (other-place joined link is)

pub cuts-long : (cuts : CutLinks) (kind : EventKind) → length (cuts_after cuts kind) ≡ length cuts
cuts-long cuts (kinds.Link (links.Cut link)) = length-set cuts (link_place link) true
cuts-long cuts (kinds.Link (links.Joined link)) = length-set cuts (link_place link) false
cuts-long cuts _ = refl
