-- What the answers of reading say of the lent buffer. Definitions only.
pub mod Input
