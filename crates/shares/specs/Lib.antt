-- What dividing leaves. Definitions only.
pub mod Division
