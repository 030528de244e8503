-- Document 01's reading, as the code gives it. Assumes nothing.
use Rattle.curve.specs.Reading as Document
use Rattle.reading.specs.declared.Reading.{Reading}

unfoldable pub shown : Document.Reading → Reading
shown r = record { value = r.value; slope = r.slope; curvature = r.curvature }
