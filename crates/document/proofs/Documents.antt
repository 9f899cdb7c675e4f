-- The document of bytes, by what serde_json makes of them.
use Rattle.std.proofs.Common.{◌≡◌, ℕ, Bool, true, false, List, Some, None, refl}
use Rattle.std.specs.Str.{IsUtf8, is_utf8}
use Rattle.std.proofs.lemmas.Str.{IsUtf8-from_is_utf8, is_utf8-from_IsUtf8}
use Rattle.serde_json.specs.Data.{Data}
use Rattle.serde_json.specs.Read.{read}
use Rattle.document.specs.Document.{document_in, document}

pub document-read : (bytes : List ℕ) (d : Data) → IsUtf8 bytes → read bytes ≡ Some d → document bytes ≡ document_in d
document-read bytes d valid e = rw (is_utf8-from_IsUtf8 bytes valid, e) refl

none_by : (bytes : List ℕ) (b : Bool) → is_utf8 bytes ≡ b → (IsUtf8 bytes → read bytes ≡ None) → document bytes ≡ None
none_by bytes true valid h = rw (valid, h (IsUtf8-from_is_utf8 bytes valid)) refl
none_by bytes false valid h = rw valid refl

pub document-none : (bytes : List ℕ) → (IsUtf8 bytes → read bytes ≡ None) → document bytes ≡ None
document-none bytes h = none_by bytes (is_utf8 bytes) refl h
