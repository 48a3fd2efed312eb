-- Laws of stacks, turns, moves and the numbering.
pub mod KindLaws
pub mod Refusals
pub mod Numbers
pub mod Panes
pub mod OrderLaws
pub mod CoatLaws
pub mod Numbering
pub mod TurnLaws
pub mod MoveLaws
pub mod GroupLaws
pub mod Roads
pub mod TurnBound
pub mod Lists
