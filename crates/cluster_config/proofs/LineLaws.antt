-- The text of a configuration stands in one line, and `{}` sets nothing.
use Rattle.std.proofs.Common.{◌≡◌, ℕ, zero, suc, ◌/◌, ◌%◌, ◌==◌, ◌||◌, nat_lt, pos, negsuc, List, [], ◌∷◌, ◌++◌, Bool, true, false, not, cond, codes, decimal, Option, None, Result, Ok, refl, ap, subst, ◌∙◌, arith}
use Rattle.std.specs.Fmt.{digits, digits_onto, digit_glyph}
use Rattle.std.specs.List.{flat_map, list_all}
use Rattle.std.specs.Str.{is_utf8}
use Rattle.std.specs.Char.{digit_char}
use Rattle.std.proofs.lemmas.Bool.{and_from}
use Rattle.std.proofs.lemmas.Bool.Decides.{nat_tests}
use Rattle.std.proofs.lemmas.List.Folds.{list_all-append}
use Rattle.std.proofs.Math.Bridge.{le_prop}
use Rattle.store_keys.specs.Defaults.{default_config, default_settings}
use Rattle.store_keys.specs.Settings.{Settings}
use Rattle.store_keys.specs.declared.config.Config.{Config}
use Rattle.serde_json.specs.Data.{Num, unsigned, negative, float, Data, null, boolean, number, string, array, object, Items, no_items, item, Members, no_members, member}
use Rattle.serde_json.specs.Read.{read}
use Rattle.serde_json.proofs.OnLiterals.{serde_json_on_literals}
use Rattle.serde_json.specs.Written.{number_text, comma_if, compact_text, items_text, members_text}
use Rattle.cluster_config.specs.declared.config_fault.ConfigFault.{ConfigFault}
use Rattle.cluster_config.specs.declared.config_fault.ConfigFault.TheVariants as faults
use Rattle.cluster_config.specs.ConfigFaults.{fault_of}
use Rattle.cluster_config.specs.ConfigReading.{on_ok, object_if_json, object_of, judged, config_read, IsConfiguration}
use Rattle.cluster_config.specs.SettingValues.{config_in}
use Rattle.cluster_config.proofs.ConfigFacts.{err-not-ok, was-judged, had-no-fault}
use Rattle.cluster_config.proofs.EmptyPatch.{empty-object}

-- a byte that ends no line
abbrev pub is_no_feed : ℕ → Bool
is_no_feed b = not (b == 10)

both : (xs ys : List ℕ) → list_all is_no_feed xs ≡ true → list_all is_no_feed ys ≡ true
    → list_all is_no_feed (xs ++ ys) ≡ true
both xs ys h k = list_all-append is_no_feed xs ys ∙ and_from (list_all is_no_feed xs) (list_all is_no_feed ys) h k

front : (b : ℕ) (bs : List ℕ) → is_no_feed b ≡ true → list_all is_no_feed bs ≡ true
    → list_all is_no_feed (b ∷ bs) ≡ true
front b bs h k = and_from (is_no_feed b) (list_all is_no_feed bs) h k

-- numbers
digit : (n : ℕ) → is_no_feed (digit_glyph false n) ≡ true
digit n = grind (arith, nat_tests)

chosen : (t : Bool) (xs ys : List ℕ) → list_all is_no_feed xs ≡ true → list_all is_no_feed ys ≡ true
    → list_all is_no_feed (cond t xs ys) ≡ true
chosen true xs ys h k = h
chosen false xs ys h k = k

some-digits : (k n : ℕ) (acc : List ℕ) → list_all is_no_feed acc ≡ true
    → list_all is_no_feed (digits_onto k 10 false n acc) ≡ true
some-digits zero n acc h = h
some-digits (suc k) n acc h =
    let d = digit_glyph false (n % 10) in
    let more : list_all is_no_feed (d ∷ acc) ≡ true = front d acc (digit (n % 10)) h in
    chosen (n / 10 == 0) (d ∷ acc) (digits_onto k 10 false (n / 10) (d ∷ acc)) more
    (some-digits k (n / 10) (d ∷ acc) more)

whole : (n : ℕ) → list_all is_no_feed (decimal n) ≡ true
unfolding digits
whole n = some-digits 64 n [] refl

number-line : (n : Num) → list_all is_no_feed (number_text n) ≡ true
number-line (unsigned n) = whole n
number-line (negative (pos n)) = whole n
number-line (negative (negsuc n)) = whole (suc n)
number-line (float x) = refl

-- strings: what stands there for a byte, of which a line feed is an escape
abbrev letter : ℕ → ℕ
letter b = cond ((b == 34) || (b == 92)) b
    (cond (b == 8) 98 (cond (b == 12) 102 (cond (b == 10) 110 (cond (b == 13) 114 (cond (b == 9) 116 0)))))

abbrev escaped : ℕ → List ℕ
escaped b = cond (nat_lt 0 (letter b)) (92 ∷ letter b ∷ [])
    (cond (nat_lt b 32) (92 ∷ 117 ∷ 48 ∷ 48 ∷ digit_char (b / 16) ∷ digit_char (b % 16) ∷ []) (b ∷ []))

letter-line : (b : ℕ) → is_no_feed (letter b) ≡ true
letter-line b = grind (arith, nat_tests)

hex-line : (n : ℕ) → is_no_feed (digit_char n) ≡ true
hex-line n = grind (arith, nat_tests)

own-line : (b : ℕ) → nat_lt b 32 ≡ false → is_no_feed b ≡ true
own-line b h = grind (arith, nat_tests)

short-line : (b : ℕ) (t : Bool) → nat_lt b 32 ≡ t
    → list_all is_no_feed (cond t (92 ∷ 117 ∷ 48 ∷ 48 ∷ digit_char (b / 16) ∷ digit_char (b % 16) ∷ []) (b ∷ [])) ≡ true
short-line b true is = front (digit_char (b / 16)) (digit_char (b % 16) ∷ []) (hex-line (b / 16))
    (front (digit_char (b % 16)) [] (hex-line (b % 16)) refl)
short-line b false is = front b [] (own-line b is) refl

escaped-line : (b : ℕ) → list_all is_no_feed (escaped b) ≡ true
escaped-line b = chosen (nat_lt 0 (letter b)) (92 ∷ letter b ∷ []) _
    (front (letter b) [] (letter-line b) refl) (short-line b (nat_lt b 32) refl)

all-escaped-line : (bs : List ℕ) → list_all is_no_feed (flat_map escaped bs) ≡ true
all-escaped-line [] = refl
all-escaped-line (b ∷ bs) = both (escaped b) (flat_map escaped bs) (escaped-line b) (all-escaped-line bs)

string-line : (s : List ℕ) → list_all is_no_feed (compact_text (string s)) ≡ true
unfolding serde_json_on_literals
string-line s = both (flat_map escaped s) (34 ∷ []) (all-escaped-line s) refl

comma-line : (later : Bool) → list_all is_no_feed (comma_if later) ≡ true
comma-line true = refl
comma-line false = refl

mutual
  text-line : (d : Data) → list_all is_no_feed (compact_text d) ≡ true
  text-line null = refl
  text-line (boolean true) = refl
  text-line (boolean false) = refl
  text-line (number n) = number-line n
  text-line (string s) = string-line s
  text-line (array ds) = items-line false ds
  text-line (object ms) = members-line false ms

  items-line : (later : Bool) (ds : Items) → list_all is_no_feed (items_text later ds) ≡ true
  items-line later no_items = refl
  items-line later (item d ds) = both (comma_if later) (compact_text d ++ items_text true ds)
      (comma-line later) (both (compact_text d) (items_text true ds) (text-line d) (items-line true ds))

  members-line : (later : Bool) (ms : Members) → list_all is_no_feed (members_text later ms) ≡ true
  members-line later no_members = refl
  members-line later (member k d ms) =
      both (comma_if later) (compact_text (string k) ++ 58 ∷ (compact_text d ++ members_text true ms))
      (comma-line later)
      (both (compact_text (string k)) (58 ∷ (compact_text d ++ members_text true ms)) (string-line k)
      (both (compact_text d) (members_text true ms) (text-line d) (members-line true ms)))

-- what is read as a configuration has a text without line feeds
pub config_read-line : (bytes : List ℕ) (s : Settings) → config_read bytes ≡ Ok s → list_all is_no_feed s.text ≡ true
config_read-line bytes s e =
    let was = was-judged (object_of bytes) s e in
    let faultless = had-no-fault (fault_of was.0 (config_in was.0))
    (record { text = compact_text was.0; config = config_in was.0 }) s was.1 in
    subst (λ (x : Settings). list_all is_no_feed x.text ≡ true) faultless.1 (text-line was.0)

-- and is UTF-8
utf8-if-read : (t : Bool) (o : Option Data) (s : Settings)
    → on_ok (object_if_json (cond t o None)) judged ≡ Ok s → t ≡ true
utf8-if-read true o s e = refl
utf8-if-read false o s e = absurd (err-not-ok faults.NotJson s e)

pub config_read-utf8 : (bytes : List ℕ) (s : Settings) → config_read bytes ≡ Ok s → is_utf8 bytes ≡ true
config_read-utf8 bytes s e = utf8-if-read (is_utf8 bytes) (read bytes) s e

-- the text `{}` is the configuration that sets nothing
empty : Config
empty = config_in (object no_members)

empty-config : empty ≡ default_config
unfolding empty
empty-config = λ i. record {
  loop_wait = 10;
  retry_timeout = 10;
  ttl = 30;
  maximum_lag_on_failover = 1048576;
  primary_start_timeout = 300;
  synchronous_node_count = 1;
  synchronous_mode = false;
  quorum = false;
  synchronous_mode_strict = false;
  standby_cluster = false;
  failsafe_mode = false;
  pause = false;
  use_pg_rewind = false;
  loop_wait_range = (
    le_prop empty.loop_wait_range.0 default_config.loop_wait_range.0 i,
    le_prop empty.loop_wait_range.1 default_config.loop_wait_range.1 i,
  );
  retry_timeout_range = (
    le_prop empty.retry_timeout_range.0 default_config.retry_timeout_range.0 i,
    le_prop empty.retry_timeout_range.1 default_config.retry_timeout_range.1 i,
  );
  ttl_range =
      (le_prop empty.ttl_range.0 default_config.ttl_range.0 i, le_prop empty.ttl_range.1 default_config.ttl_range.1 i);
  maximum_lag_on_failover_range =
      le_prop empty.maximum_lag_on_failover_range default_config.maximum_lag_on_failover_range i;
  primary_start_timeout_range = le_prop empty.primary_start_timeout_range default_config.primary_start_timeout_range i;
  synchronous_node_count_range = (
    le_prop empty.synchronous_node_count_range.0 default_config.synchronous_node_count_range.0 i,
    le_prop empty.synchronous_node_count_range.1 default_config.synchronous_node_count_range.1 i,
  );
  quorum_is_synchronous = refl;
  standby_stands_alone = refl;
}

pub config_read-empty : config_read (codes "{}") ≡ Ok default_settings
unfolding empty
config_read-empty = ap (λ (r : Result Data ConfigFault). on_ok r judged) empty-object
    ∙ ap (λ (c : Config). Ok (record { text = codes "{}"; config = c })) empty-config

pub default-IsConfiguration : IsConfiguration default_settings
default-IsConfiguration = record { reads_back = config_read-empty }
