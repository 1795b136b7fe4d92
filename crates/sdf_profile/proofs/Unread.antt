-- Why a text is not written.
use Rattle.std.proofs.Common.{◌≡◌, ◌⊎◌, ℕ, List, Ok, inl, inr}
use Rattle.sdf_document.specs.Lists.{Files}
use Rattle.sdf_profile.specs.declared.unwritten.Unwritten.{Unwritten}
use Rattle.sdf_profile.specs.declared.unwritten.Unwritten.TheVariants.{OutOfMemory, Reading}
use Rattle.sdf_profile.specs.Places.{costed_text_of}
use Rattle.sdf_profile.specs.Written.{SaysWithCosts, IsUnwritten, memory, reading}

-- a text is made, and does not say what the graph file says
pub unread : (ns graph : List ℕ) (files : Files) (fault : Unwritten) (text : List ℕ) →
    costed_text_of ns graph ≡ Ok text →
    (fault ≡ OutOfMemory) ⊎ ((fault ≡ Reading) × (¬ SaysWithCosts ns graph text files)) →
    IsUnwritten ns graph files fault
unread ns graph files fault text is (inl refused) = memory refused
unread ns graph files fault text is (inr (read, other)) = reading text is other read
