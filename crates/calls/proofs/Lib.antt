-- how a call that names a pair begins
pub mod CallLaws
