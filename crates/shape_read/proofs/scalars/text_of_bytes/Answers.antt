use Rattle.std.proofs.Common.{rules, ◌≡◌, ap, true, false, sym, subst}
use Rattle.std.specs.Str.{is_utf8}
use Rattle.std.proofs.lemmas.Str.{is_utf8-from_IsUtf8, IsUtf8-string_bytes}
use Rattle.data_core.specs.Outcome.{given}
use Rattle.shape.specs.Shape.{text_data}
use Rattle.scalar_seeds.proofs.Texts.{is_utf8-not}
use Rattle.shape_read.proofs.scalars.text_of_bytes.Goals as goal

pub returns-in-Ok-clause-answers : goal.returns-in-Ok-clause-answers
returns-in-Ok-clause-answers g c =
    let bytes = c.args.bytes.items in
    let valid : is_utf8 bytes ≡ true = subst (λ b. is_utf8 b.items ≡ true) c.in-Ok.ensures.ok (is_utf8-from_IsUtf8 _ (IsUtf8-string_bytes c.in-Ok.text)) in
    rw (valid, c.from_string.ensures) (ap (λ v. given (text_data v.items)) (sym c.in-Ok.ensures.ok))

pub returns-in-Err-clause-answers : goal.returns-in-Err-clause-answers
returns-in-Err-clause-answers g c =
    let bytes = c.args.bytes.items in
    let malformed : is_utf8 bytes ≡ false = is_utf8-not bytes (λ valid. let wrong : false ≡ true = c.in-Err.ensures.succeeds valid in cc) in
    rw malformed (search rules)
