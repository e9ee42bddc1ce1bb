-- The value that a body is, by the two tests that make it one.
use Rattle.std.proofs.Common.{◌≡◌, refl, ℕ, Bool, true, false, List, Option, Some, None, if◌then◌else◌}
use Rattle.std.specs.Str.{IsUtf8, is_utf8}
use Rattle.std.proofs.lemmas.Str.{IsUtf8-from_is_utf8, is_utf8-from_IsUtf8}
use Rattle.serde_json.specs.Data.{Data}
use Rattle.serde_json.specs.Read.{read}
use Rattle.ob_http_replies.specs.JsonCommands.{json_in}

pub json_is : (body : List ℕ) (d : Data) → IsUtf8 body → read body ≡ Some d → json_in body ≡ Some d
json_is body d text value = rw (is_utf8-from_IsUtf8 body text) value

none_where : (body : List ℕ) (text : Bool) (value : Option Data) → (text ≡ true → value ≡ None) → (if text then value else None) ≡ None
none_where body true value h = h refl
none_where body false value h = refl

pub json_is_none : (body : List ℕ) → (IsUtf8 body → read body ≡ None) → json_in body ≡ None
json_is_none body h = none_where body (is_utf8 body) (read body) (λ test. h (IsUtf8-from_is_utf8 body test))
