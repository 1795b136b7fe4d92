-- What proofs of other crates cite of this one: what `==` says.
pub use Rattle.sdf_document.proofs.Equal.{kinds_decide, links_decide}
