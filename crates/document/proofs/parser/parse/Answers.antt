use Rattle.std.proofs.Common.{◌≡◌, ◌∙◌, true, false, sym}
use Rattle.serde_json.specs.View.{view}
use Rattle.document.proofs.Documents.{document-read, document-none}
use Rattle.document.proofs.parser.parse.Goals as goal

pub returns-in-Ok : goal.returns-in-Ok
returns-in-Ok c =
    let read = c.in-Ok.ensures.ok in
    rw (document-read c.args.bytes.now (view c.in-Ok.json) read.0 read.1) c.parse_json.ensures

pub returns-else-is_memory : goal.returns-else-is_memory
returns-else-is_memory c =
    sym (document-none c.args.bytes.now (c.in-Err.ensures.err (λ memory. let wrong : false ≡ true = sym c.if-is_memory.false ∙ c.is_memory.ensures.1 memory in cc)))
