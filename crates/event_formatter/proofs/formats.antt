mod SingleSpanLine
mod Heads
mod Scopes
mod EventSpans
mod VisitorText
mod OwnSpans
mod LinePieces
