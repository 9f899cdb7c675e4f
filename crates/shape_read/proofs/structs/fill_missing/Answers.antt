use Rattle.std.proofs.Common.{◌≡◌, Some, sym, ◌∙◌, ap, get_or, slice_get}
use Rattle.shape_read.proofs.Places.{nothing_at, missing_at}
use Rattle.shape_read.proofs.structs.fill_missing.Goals as goal

pub returns-then-may_be_missing : goal.returns-then-may_be_missing
returns-then-may_be_missing g c =
    let f = c.args.fields.now in
    let a = c.index-shapes-place.result in
    let is : a ≡ get_or f.shapes.items c.args.place a = c.index-shapes-place.is ∙ ap (λ xs. get_or xs c.args.place a) c.shapes.ensures in
    nothing_at f.names f.shapes.items c.args.place a c.requires is c.if-may_be_missing.ensures

pub returns-in-Some : goal.returns-in-Some
returns-in-Some g c =
    let f = c.args.fields.now in
    let a = c.index-shapes-place.result in
    let is : a ≡ get_or f.shapes.items c.args.place a = c.index-shapes-place.is ∙ ap (λ xs. get_or xs c.args.place a) c.shapes.ensures in
    let named : Some c.in-Some.name.now ≡ slice_get f.names c.args.place = c.in-Some.ensures ∙ ap (λ names. slice_get names c.args.place) c.names.ensures in
    missing_at (g.D.Error.DeError.fault c.missing_field.result) f.names f.shapes.items c.args.place c.in-Some.name.now a named c.requires is (sym c.if-may_be_missing.false ∙ c.may_be_missing.ensures) c.missing_field.ensures
