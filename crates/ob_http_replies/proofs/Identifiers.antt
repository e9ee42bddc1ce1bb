-- Identifiers are ASCII, and so UTF-8.
use Rattle.std.proofs.Common.{◌≡◌, ℕ, ◌<◌, true, List, [], ◌∷◌, arith}
use Rattle.std.specs.List.{list_all}
use Rattle.std.specs.Str.{IsAscii, IsUtf8}
use Rattle.std.proofs.lemmas.Str.{IsUtf8-from_ascii}
use Rattle.std.proofs.lemmas.Str.Ascii.{IsAscii-nil, IsAscii-cons}
use Rattle.ob_base.specs.Identifier.{is_identifier, is_identifier_byte}

byte_below : (b : ℕ) → is_identifier_byte b ≡ true → b < 128
byte_below b h = grind arith

bytes_are_ascii : (bytes : List ℕ) → list_all is_identifier_byte bytes ≡ true → IsAscii bytes
bytes_are_ascii [] h = IsAscii-nil
bytes_are_ascii (b ∷ bytes) h = IsAscii-cons b bytes (byte_below b (grind arith)) (bytes_are_ascii bytes (grind arith))

pub identifier_is_utf8 : (limit : ℕ) (bytes : List ℕ) → is_identifier limit bytes ≡ true → IsUtf8 bytes
identifier_is_utf8 limit bytes h = IsUtf8-from_ascii bytes (bytes_are_ascii bytes (grind arith))
