-- Both crates have the same tokens.
use Rattle.std.proofs.Common.{◌≡◌, ℕ, List, refl}
use Rattle.httparse.specs.Grammar as parsed
use Rattle.http_header.specs.Token as header

same-byte : (b : ℕ) → parsed.is_token_byte b ≡ header.is_token_byte b
unfolding parsed.is_token_byte header.is_token_byte
same-byte b = refl

pub same-token : (token : List ℕ) → parsed.IsToken token → header.IsToken token
same-token token is = (is.0, λ k d lt. rw (← same-byte _) (is.1 k d lt))
