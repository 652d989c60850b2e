mod DraftLemmas
mod EntryLemmas
mod FieldLemmas
mod TextLemmas
mod VisitLemmas
mod BytesLemmas
mod NamesLemmas
pub mod IndexedLemmas
pub mod OwnedCopies
mod StyledLemmas
mod OptionLemmas
