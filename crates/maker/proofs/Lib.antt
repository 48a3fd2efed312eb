-- Laws of the text of a table in lines.
pub mod TextLaws
