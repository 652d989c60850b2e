pub mod EventNotices
pub mod EachElement
pub mod KeptInterests
mod NotedRefusals
pub mod OnStack
pub mod RegistryAfterNotices
pub mod ClosedSpans
pub mod NewSpans
pub mod NewStack
pub mod Swaps
pub mod Numbers
pub mod RegistryIndependence
pub mod Soundness
pub mod OneOutputDecides
pub mod TakenOutputs
pub mod Keys
pub mod Unmarked
