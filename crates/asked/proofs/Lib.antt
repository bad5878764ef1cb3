-- what reading a word gives, and that a number in decimal is read as that number
pub mod NumberLaws
-- what two words ask for
pub mod RequestLaws
