use Rattle.std.proofs.Common.{◌≡◌, ◌∙◌, length, take, ap, arith}
use Rattle.shape.specs.Names.{place_in}
use Rattle.shape.specs.View.{shape_view}
use Rattle.shape.proofs.Places.{names_of_paired}
use Rattle.shape.proofs.shapes.Fields.find.Goals as goal

pub returns : goal.returns
returns c =
    let f = c.args.self.now in
    let all = f.shapes.items in
    let number : c.len.result ≡ length all = omega (arith, f.shapes.ok.0, c.len.ensures) in
    c.place_among.ensures ∙ ap (λ n. place_in c.args.name.now (take n f.names)) number ∙ ap (place_in c.args.name.now) (names_of_paired shape_view f.names all)
