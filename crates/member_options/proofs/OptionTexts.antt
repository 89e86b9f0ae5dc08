-- Options as words of plain bytes.
use Rattle.std.proofs.Common.{◌≡◌, ℕ, ℤ, pos, negsuc, suc, ◌+◌, ◌*◌, true, false, List, [], ◌∷◌, ◌++◌, length, map, codes, refl, arith}
use Rattle.std.specs.Prelude.{◌≤ℤ◌}
use Rattle.std.specs.Fmt.{decimal, signed_decimal}
use Rattle.std.specs.List.{list_all}
use Rattle.std.proofs.lemmas.Bool.{and_parts, and_from}
use Rattle.std.proofs.lemmas.Bool.Decides.{nat_tests}
use Rattle.pat_base.specs.Bounded.{is_text-bytes, is_text-fits}
use Rattle.pat_base.specs.Host.{host_bytes}
use Rattle.pat_base.specs.HostText.{is_host, is_host_byte}
use Rattle.leader_key.specs.declared.watchdog.Mode.TheVariants as modes
use Rattle.script_words.proofs.PlainTexts.{is_plain, IsPlain, IsPlain-append, IsPlain-most, blank-IsPlain, decimal-IsPlain}
use Rattle.member_options.specs.Options.{option_text, behind_blanks}
use Rattle.member_options.specs.declared.member_option.MemberOption.{MemberOption}
use Rattle.member_options.specs.declared.member_option.MemberOption.TheVariants as options
use Rattle.member_options.specs.declared.ranges.SafetyMargin.TheVariants as margins
use Rattle.member_options.proofs.OptionWords.{margin-fits}
use Rattle.member_options.proofs.PriorityLaws.{fits-from-zero, fits-below-zero}

host-byte : (b : ℕ) → is_host_byte b ≡ true → is_plain b ≡ true
host-byte b h = grind (arith, nat_tests)

host-bytes : (v : List ℕ) → list_all is_host_byte v ≡ true → list_all is_plain v ≡ true
host-bytes [] h = refl
host-bytes (b ∷ bs) h =
    let both = and_parts (is_host_byte b) (list_all is_host_byte bs) h in
    and_from (is_plain b) (list_all is_plain bs) (host-byte b both.0) (host-bytes bs both.1)

host-text-IsPlain : (v : List ℕ) → is_host v ≡ true → IsPlain v 40
host-text-IsPlain v h =
    record { plain = host-bytes v (is_text-bytes 40 is_host_byte v h); short = is_text-fits 40 is_host_byte v h }

whole_number-IsPlain : (z : ℤ) → negsuc 999 ≤ℤ z → z ≤ℤ pos 1000 → IsPlain (signed_decimal z) 21
whole_number-IsPlain (pos n) low high =
    IsPlain-most (decimal n) 20 21 (omega arith) (decimal-IsPlain n (fits-from-zero n high))
whole_number-IsPlain (negsuc less) low high = IsPlain-append (45 ∷ []) (decimal (suc less)) 1 20
    (record { plain = refl; short = omega arith }) (decimal-IsPlain (suc less) (fits-below-zero less low))

option-IsPlain : (o : MemberOption) → IsPlain (option_text o) 45
option-IsPlain (options.Host host) = IsPlain-append (codes "host=") (host_bytes host) 5 40
    (record { plain = refl; short = omega arith }) (host-text-IsPlain (host_bytes host) host.legal)
option-IsPlain options.NoFailover = record { plain = refl; short = omega arith }
option-IsPlain options.NoSync = record { plain = refl; short = omega arith }
option-IsPlain options.NoLoadBalance = record { plain = refl; short = omega arith }
option-IsPlain (options.Priority priority) =
    IsPlain-append (codes "priority=") (signed_decimal priority.number) 9 36
    (record { plain = refl; short = omega arith })
    (IsPlain-most (signed_decimal priority.number) 21 36 (omega arith)
    (whole_number-IsPlain priority.number priority.lowest priority.highest))
option-IsPlain (options.Watchdog modes.Off) = record { plain = refl; short = omega arith }
option-IsPlain (options.Watchdog modes.Automatic) = record { plain = refl; short = omega arith }
option-IsPlain (options.Watchdog modes.Required) = record { plain = refl; short = omega arith }
option-IsPlain (options.Device true) = record { plain = refl; short = omega arith }
option-IsPlain (options.Device false) = record { plain = refl; short = omega arith }
option-IsPlain (options.Margin margins.HalfOfLease) = record { plain = refl; short = omega arith }
option-IsPlain (options.Margin (margins.Seconds margin)) =
    IsPlain-append (codes "margin=") (decimal margin.seconds) 7 38 (record { plain = refl; short = omega arith })
    (IsPlain-most (decimal margin.seconds) 20 38 (omega arith) (decimal-IsPlain margin.seconds (margin-fits margin)))

pub options-IsPlain : (os : List MemberOption) → IsPlain (behind_blanks (map option_text os)) (length os * 46)
options-IsPlain [] = record { plain = refl; short = omega arith }
options-IsPlain (o ∷ os) =
    let whole : IsPlain (option_text o ++ behind_blanks (map option_text os)) (45 + length os * 46) = IsPlain-append
    (option_text o) (behind_blanks (map option_text os)) 45 (length os * 46) (option-IsPlain o) (options-IsPlain os) in
    IsPlain-most (32 ∷ (option_text o ++ behind_blanks (map option_text os))) ((45 + length os * 46) + 1)
    (length (o ∷ os) * 46) (omega arith)
    (blank-IsPlain (option_text o ++ behind_blanks (map option_text os)) (45 + length os * 46) whole)
