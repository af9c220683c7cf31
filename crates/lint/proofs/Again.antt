-- A document that was read is written as it was.
use Rattle.std.proofs.Common.{Option, sym, subst, ◌∙◌}
use Rattle.std.specs.Io.KnownBytes.{Appends}
use Rattle.fm_grammar.specs.Exposition.{Text, Exposition}
use Rattle.fm_grammar.specs.Document.{IsDocument}
use Rattle.fm_grammar.specs.Reading.{IsExposition}
use Rattle.fm_grammar.proofs.Spellings.{document_spelling}
use Rattle.fm_exposition.specs.Written.{AppendsDocument}
use Rattle.lint.specs.Documents.{PrintsAgain}

pub again : (old new : Option Text) (text : Text) (e : Exposition) → IsExposition e × IsDocument text e → AppendsDocument old new e → PrintsAgain old new text
again old new text e read written =
    ((e, read.0, read.1), subst (Appends old new) (document_spelling written.0 e written.1.document ∙ sym (document_spelling text e read.1)) written.2)
