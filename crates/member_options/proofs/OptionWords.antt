-- One option as a word, the words behind a name, and what they say, each thing at most once.
use Rattle.std.proofs.Common.{◌≡◌, ℕ, ◌^◌, ◌<◌, ◌==◌, Bool, true, false, cond, List, [], ◌∷◌, ◌++◌, map, Option, Some, None, Result, Ok, Err, codes, refl, ◌∙◌, ap, sym, arith, append-nil}
use Rattle.std.specs.Fmt.{decimal, signed_decimal}
use Rattle.std.specs.Option.{ok_or}
use Rattle.std.specs.Str.{bytes_eq}
use Rattle.std.proofs.lemmas.Bool.{eqb-true}
use Rattle.std.proofs.lemmas.Slice.Eq.{bytes_eq-Decides}
use Rattle.pat_base.specs.Host.{host_bytes}
use Rattle.pat_base.specs.declared.host.Host.{Host}
use Rattle.leader_key.specs.declared.watchdog.Mode.{Mode}
use Rattle.leader_key.specs.declared.watchdog.Mode.TheVariants as modes
use Rattle.script_words.specs.Faults.{on_ok}
use Rattle.member_options.specs.Hosts.{host_of}
use Rattle.script_words.specs.Lines.{first_at, push_byte}
use Rattle.script_words.specs.Numbers.{number}
use Rattle.member_options.specs.Options.{option_name_text, option_names, mode_text, device_text, margin_text, name_and_value, option_text, behind_blanks}
use Rattle.member_options.specs.OptionReading.{words_in, option_words, option_name_of, cut_name, host_in, priority_in, mode_in, device_in, seconds_by_number, seconds_in, margin_in, option_of, known_option, option_in}
use Rattle.member_options.specs.Ranges.{margin_of}
use Rattle.script_words.specs.Words.{cut_word}
use Rattle.script_words.specs.declared.fault.Fault.{Fault}
use Rattle.script_words.specs.declared.fault.Fault.TheVariants as faults
use Rattle.member_options.specs.declared.member_option.MemberOption.{MemberOption}
use Rattle.member_options.specs.declared.member_option.MemberOption.TheVariants as options
use Rattle.member_options.specs.declared.option_name.OptionName.{OptionName}
use Rattle.member_options.specs.declared.option_name.OptionName.TheVariants as names
use Rattle.member_options.specs.declared.ranges.Margin.{Margin}
use Rattle.member_options.specs.declared.ranges.SafetyMargin.{SafetyMargin}
use Rattle.member_options.specs.declared.ranges.SafetyMargin.TheVariants as margins
use Rattle.member_options.proofs.HostLaws.{host_of-Some, host_of-text, first_at-host}
use Rattle.script_words.proofs.NumberLaws.{number-is, number-decimal, first_at-append, first_at-decimal}
use Rattle.script_words.proofs.Outcomes.{ok_is, err_is, on_ok-made, ok_or-Ok}
use Rattle.member_options.proofs.PriorityLaws.{priority_in-Ok, priority_in-again, first_at-priority}
use Rattle.member_options.proofs.RangeLaws.{margin_of-Some, margin_of-seconds}
use Rattle.script_words.proofs.WordLaws.{find-passes, cut-Some, cut_word-None, cut_word-Some, cut_word-again, cut_word-alone, passed}

-- a word that is an option is spelled as it
chosen : {A : Type 0} (text : A → List ℕ) (value word : List ℕ) (x y : A) (r : Result A Fault) (t : Bool)
    → bytes_eq value word ≡ t → text x ≡ word → (r ≡ Ok y → text y ≡ value) → cond t (Ok x) r ≡ Ok y → text y ≡ value
chosen text value word x y r true is same other e =
    sym (ap text (ok_is x y e)) ∙ same ∙ sym ((bytes_eq-Decides value word).0 is)
chosen text value word x y r false is same other e = other e

mode_in-Ok : (value : List ℕ) (mode : Mode) → mode_in value ≡ Ok mode → mode_text mode ≡ value
mode_in-Ok value mode e =
    chosen mode_text value (codes "off") modes.Off mode _ (bytes_eq value (codes "off")) refl refl
    (λ a.
    chosen mode_text value (codes "automatic") modes.Automatic mode _ (bytes_eq value (codes "automatic")) refl refl
    (λ b. chosen mode_text value (codes "required") modes.Required mode _
    (bytes_eq value (codes "required")) refl refl (λ c. absurd (err_is _ mode c)) b)
    a)
    e

device_in-Ok : (value : List ℕ) (works : Bool) → device_in value ≡ Ok works → device_text works ≡ value
device_in-Ok value works e =
    chosen device_text value (codes "ok") true works _ (bytes_eq value (codes "ok")) refl refl
    (λ a. chosen device_text value (codes "broken") false works _ (bytes_eq value (codes "broken")) refl refl
    (λ b. absurd (err_is _ works b)) a)
    e

seconds-of : (value : List ℕ) (o : Option ℕ) (margin : Margin) → number value ≡ o
    → seconds_by_number value o ≡ Ok margin → decimal margin.seconds ≡ value
seconds-of value None margin is e = absurd (err_is _ margin e)
seconds-of value (Some n) margin is e =
    ap decimal (margin_of-seconds n margin (ok_or-Ok (margin_of n) faults.BadNumber margin e))
    ∙ sym (number-is value n is)

margin_in-Ok : (value : List ℕ) (margin : SafetyMargin) → margin_in value ≡ Ok margin → margin_text margin ≡ value
margin_in-Ok value margin e =
    chosen margin_text value (codes "-1") margins.HalfOfLease margin _ (bytes_eq value (codes "-1")) refl refl
    (λ a. on_ok-made (λ x. margin_text x ≡ value) (seconds_in value) margins.Seconds margin a
    (λ seconds is. seconds-of value (number value) seconds refl is))
    e

host_in-Ok : (value : List ℕ) (host : Host) → host_in value ≡ Ok host → host_bytes host ≡ value
host_in-Ok value host e = host_of-text value host (ok_or-Ok (host_of value) faults.BadOption host e)

flag-of : (option o : MemberOption) (name : OptionName) (value : List ℕ) (t : Bool)
    → option_text option ≡ name_and_value name (codes "true") → bytes_eq value (codes "true") ≡ t
    → cond t (Ok option) (Err faults.BadOption) ≡ Ok o → option_text o ≡ name_and_value name value
flag-of option o name value true same is e = sym (ap option_text (ok_is option o e)) ∙ same
    ∙ ap (name_and_value name) (sym ((bytes_eq-Decides value (codes "true")).0 is))
flag-of option o name value false same is e = absurd (err_is _ o e)

option_of-Ok : (name : OptionName) (value : List ℕ) (o : MemberOption) → option_of name value ≡ Ok o
    → option_text o ≡ name_and_value name value
option_of-Ok names.Host value o e = on_ok-made (λ x. option_text x ≡ name_and_value names.Host value)
    (host_in value) options.Host o e (λ host is. ap (name_and_value names.Host) (host_in-Ok value host is))
option_of-Ok names.NoFailover value o e =
    flag-of options.NoFailover o names.NoFailover value (bytes_eq value (codes "true")) refl refl e
option_of-Ok names.NoSync value o e =
    flag-of options.NoSync o names.NoSync value (bytes_eq value (codes "true")) refl refl e
option_of-Ok names.NoLoadBalance value o e =
    flag-of options.NoLoadBalance o names.NoLoadBalance value (bytes_eq value (codes "true")) refl refl e
option_of-Ok names.Priority value o e =
    on_ok-made (λ x. option_text x ≡ name_and_value names.Priority value) (priority_in value) options.Priority o e
    (λ priority is. ap (name_and_value names.Priority) (priority_in-Ok value priority is))
option_of-Ok names.Watchdog value o e = on_ok-made (λ x. option_text x ≡ name_and_value names.Watchdog value)
    (mode_in value) options.Watchdog o e (λ mode is. ap (name_and_value names.Watchdog) (mode_in-Ok value mode is))
option_of-Ok names.Device value o e = on_ok-made (λ x. option_text x ≡ name_and_value names.Device value)
    (device_in value) options.Device o e (λ works is. ap (name_and_value names.Device) (device_in-Ok value works is))
option_of-Ok names.Margin value o e = on_ok-made (λ x. option_text x ≡ name_and_value names.Margin value)
    (margin_in value) options.Margin o e (λ margin is. ap (name_and_value names.Margin) (margin_in-Ok value margin is))

option_name_of-is : (word : List ℕ) (name : OptionName) → option_name_of word ≡ Some name → word ≡ option_name_text name
option_name_of-is word name e = (bytes_eq-Decides word (option_name_text name)).0
    (find-passes (λ n. bytes_eq word (option_name_text n)) option_names name e)

known-Ok : (word : List ℕ) (name : Option OptionName) (value : Option (List ℕ)) (o : MemberOption)
    → option_name_of (cut_name word).0 ≡ name → (cut_name word).1 ≡ value → known_option name value ≡ Ok o
    → option_text o ≡ word
known-Ok word None value o is at e = absurd (err_is _ o e)
known-Ok word (Some name) None o is at e = absurd (err_is _ o e)
known-Ok word (Some name) (Some value) o is at e =
    option_of-Ok name value o e
    ∙ ap (λ t. t ++ (61 ∷ value)) (sym (option_name_of-is (cut_name word).0 name is))
    ∙ sym (cut-Some 61 word value (first_at 61 word) refl at)

pub option_in-Ok : (word : List ℕ) (o : MemberOption) → option_in word ≡ Ok o → option_text o ≡ word
option_in-Ok word o e = known-Ok word (option_name_of (cut_name word).0) (cut_name word).1 o refl refl e

-- and is read again
pub margin-fits : (margin : Margin) → margin.seconds < 2 ^ 64
margin-fits margin = omega (arith, margin.most)

seconds_in-again : (margin : Margin) → seconds_in (decimal margin.seconds) ≡ Ok margin
seconds_in-again margin =
    ap (seconds_by_number (decimal margin.seconds)) (number-decimal margin.seconds (margin-fits margin))
    ∙ ap (λ o. ok_or o faults.BadNumber) (margin_of-Some margin.seconds margin refl)

-- no number is spelled with a minus sign
unsigned : (n : ℕ) (t : Bool) → n < 2 ^ 64 → bytes_eq (decimal n) (codes "-1") ≡ t → t ≡ false
unsigned n true fits is =
    let same : None ≡ first_at 45 (codes "-1") = sym (first_at-decimal 45 n (omega arith) fits)
    ∙ ap (first_at 45) ((bytes_eq-Decides (decimal n) (codes "-1")).0 is) in
    cc
unsigned n false fits is = refl

margin_in-again : (margin : SafetyMargin) → margin_in (margin_text margin) ≡ Ok margin
margin_in-again margins.HalfOfLease = refl
margin_in-again (margins.Seconds margin) =
    ap (λ t.
    cond t (Ok margins.HalfOfLease) (on_ok (seconds_in (decimal margin.seconds)) (λ m. Ok (margins.Seconds m))))
    (unsigned margin.seconds (bytes_eq (decimal margin.seconds) (codes "-1")) (margin-fits margin) refl)
    ∙ ap (λ r. on_ok r (λ m. Ok (margins.Seconds m))) (seconds_in-again margin)

pub option_in-again : (o : MemberOption) → option_in (option_text o) ≡ Ok o
option_in-again (options.Host host) =
    ap (λ o. on_ok (ok_or o faults.BadOption) (λ h. Ok (options.Host h))) (host_of-Some (host_bytes host) host refl)
option_in-again options.NoFailover = refl
option_in-again options.NoSync = refl
option_in-again options.NoLoadBalance = refl
option_in-again (options.Priority priority) =
    ap (λ r. on_ok r (λ p. Ok (options.Priority p))) (priority_in-again priority)
option_in-again (options.Watchdog modes.Off) = refl
option_in-again (options.Watchdog modes.Automatic) = refl
option_in-again (options.Watchdog modes.Required) = refl
option_in-again (options.Device true) = refl
option_in-again (options.Device false) = refl
option_in-again (options.Margin margin) = ap (λ r. on_ok r (λ m. Ok (options.Margin m))) (margin_in-again margin)

first_at-option : (o : MemberOption) → first_at 32 (option_text o) ≡ None
first_at-option (options.Host host) = first_at-append 32 (codes "host=") (host_bytes host) refl (first_at-host host)
first_at-option options.NoFailover = refl
first_at-option options.NoSync = refl
first_at-option options.NoLoadBalance = refl
first_at-option (options.Priority priority) =
    first_at-append 32 (codes "priority=") (signed_decimal priority.number) refl (first_at-priority priority)
first_at-option (options.Watchdog modes.Off) = refl
first_at-option (options.Watchdog modes.Automatic) = refl
first_at-option (options.Watchdog modes.Required) = refl
first_at-option (options.Device true) = refl
first_at-option (options.Device false) = refl
first_at-option (options.Margin margins.HalfOfLease) = refl
first_at-option (options.Margin (margins.Seconds margin)) = first_at-append 32 (codes "margin=")
    (decimal margin.seconds) refl (first_at-decimal 32 margin.seconds (omega arith) (margin-fits margin))

-- words and the blanks before them
behind-step : (t : Bool) (b : ℕ) (bs : List ℕ) (ws : List (List ℕ)) → (b == 32) ≡ t
    → behind_blanks ws ≡ 32 ∷ bs → behind_blanks (cond t ([] ∷ ws) (push_byte b ws)) ≡ 32 ∷ (b ∷ bs)
behind-step true b bs ws is h = ap (λ t. 32 ∷ t) (h ∙ ap (λ c. c ∷ bs) (sym (eqb-true b 32 is)))
behind-step false b bs [] is h = cc
behind-step false b bs (w ∷ ws) is h = let rest : w ++ behind_blanks ws ≡ bs = cc in ap (λ t. 32 ∷ (b ∷ t)) rest

behind-words : (words : List ℕ) → behind_blanks (words_in words) ≡ 32 ∷ words
behind-words [] = refl
behind-words (b ∷ bs) = behind-step (b == 32) b bs (words_in bs) refl (behind-words bs)

-- a name and the options behind it are all of the words
pub options-behind : (words name : List ℕ) (rest : Option (List ℕ)) (os : List MemberOption)
    → (cut_word words).1 ≡ rest → name ≡ (cut_word words).0 → map option_text os ≡ option_words rest
    → name ++ behind_blanks (map option_text os) ≡ words
options-behind words name None os at same text =
    ap (λ ws. name ++ behind_blanks ws) text ∙ append-nil name ∙ same ∙ cut_word-None words at
options-behind words name (Some r) os at same text =
    ap (λ ws. name ++ behind_blanks ws) text
    ∙ ap (λ t. name ++ t) (behind-words r)
    ∙ ap (λ t. t ++ (32 ∷ r)) same
    ∙ sym (cut_word-Some words r at)

abbrev HaveNoBlank : List (List ℕ) → Type 0
HaveNoBlank [] = Unit {0}
HaveNoBlank (w ∷ ws) = (first_at 32 w ≡ None) × HaveNoBlank ws

word-again : (word tail : List ℕ) (rest : List (List ℕ)) → first_at 32 word ≡ None → words_in tail ≡ [] ∷ rest
    → words_in (word ++ tail) ≡ word ∷ rest
word-again [] tail rest h is = is
word-again (b ∷ bs) tail rest h is =
    let p = passed (b == 32) (first_at 32 bs) h in
    rw (p.0, word-again bs tail rest p.1 is) refl

behind-again : (ws : List (List ℕ)) → HaveNoBlank ws → words_in (behind_blanks ws) ≡ [] ∷ ws
behind-again [] h = refl
behind-again (w ∷ ws) h = ap (λ t. [] ∷ t) (word-again w (behind_blanks ws) ws h.0 (behind-again ws h.1))

options-HaveNoBlank : (os : List MemberOption) → HaveNoBlank (map option_text os)
options-HaveNoBlank [] = tt
options-HaveNoBlank (o ∷ os) = (first_at-option o, options-HaveNoBlank os)

-- a name and the words behind it
pub record AreCut (text name : List ℕ) (ws : List (List ℕ)) : Type 0 where
  pub name_is : (cut_word text).0 ≡ name
  pub words_are : option_words (cut_word text).1 ≡ ws

words-cut : (name : List ℕ) (ws : List (List ℕ)) → first_at 32 name ≡ None → HaveNoBlank ws
    → AreCut (name ++ behind_blanks ws) name ws
words-cut name [] h k =
    let e : cut_word (name ++ []) ≡ (name, None) = ap cut_word (append-nil name) ∙ cut_word-alone name h in
    record { name_is = ap (λ p. p.0) e; words_are = ap (λ p. option_words p.1) e }
words-cut name (w ∷ ws) h k =
    let e : cut_word (name ++ (32 ∷ (w ++ behind_blanks ws))) ≡ (name, Some (w ++ behind_blanks ws)) =
    cut_word-again name (w ++ behind_blanks ws) h in
    record {
      name_is = ap (λ p. p.0) e;
      words_are = ap (λ p. option_words p.1) e ∙ word-again w (behind_blanks ws) ws k.0 (behind-again ws k.1);
    }

pub options-cut : (name : List ℕ) (os : List MemberOption) → first_at 32 name ≡ None
    → AreCut (name ++ behind_blanks (map option_text os)) name (map option_text os)
options-cut name os h = words-cut name (map option_text os) h (options-HaveNoBlank os)
