-- What filling and copying a part of a slice leaves. Definitions only; they serve inner contracts.
pub mod Fill
pub mod Copy
