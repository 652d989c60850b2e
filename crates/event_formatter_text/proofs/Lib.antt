mod Blocks
mod UnescapedText
mod MessageText
pub mod PieceVisits
mod VisitorText
mod MemberPlaces
mod KeptMembers
mod GivenMembers
mod MemberChains
mod JsonStrings
mod JsonObjects
mod JsonNumbers
mod JsonValues
pub mod TerminalControls
pub mod TerminalSafeFields
mod ObjectLaws
pub mod HarmlessTexts
