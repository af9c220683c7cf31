-- The labels of a request, as they are emitted.
use Rattle.std.specs.Prelude.{ℕ, List, [], ◌∷◌, codes, decimal}
use Rattle.fastmetrics.specs.Labels.{EmittedLabel, NamePiece, ValuePiece}
use Rattle.expose_io.specs.declared.tree.Method.{Method}
use Rattle.expose_io.specs.declared.tree.Method.TheVariants.{Get, Put}
use Rattle.expose_io.specs.declared.tree.Request.{Request}

abbrev pub method_text : Method → List ℕ
method_text Get = codes "Get"
method_text Put = codes "Put"

abbrev pub labels_of_request : Request → List EmittedLabel
labels_of_request request =
    (NamePiece (codes "method") ∷ ValuePiece (method_text request.method) ∷ [])
    ∷ (NamePiece (codes "status") ∷ ValuePiece (decimal request.status) ∷ []) ∷ []
