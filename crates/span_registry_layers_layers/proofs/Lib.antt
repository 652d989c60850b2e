pub mod Boxes
pub mod AttachedLayers
pub mod EachElement
pub mod FilterNumbers
pub mod FurtherLayer
pub mod NextSpanClose
pub mod Soundness
mod SharedLoans
pub mod Spans
pub mod LentSlots
