-- The faults of a document, and when a reader gives what a definition gives.
use Rattle.std.specs.Prelude.{◌≡◌, ℕ, List, ◌++◌, codes, decimal, Option, Some, None, Result, Ok, Err, string_bytes}
use Rattle.sdf_document.specs.declared.fault.Place.{Place as PlaceOf}
use Rattle.sdf_document.specs.declared.fault.Place.TheVariants as places
use Rattle.sdf_document.specs.declared.fault.BorrowedPlace.{BorrowedPlace}
use Rattle.sdf_document.specs.declared.fault.BorrowedPlace.TheVariants as borrowed_places
use Rattle.sdf_document.specs.declared.fault.DocumentFault.{DocumentFault}
use Rattle.sdf_document.specs.declared.fault.DocumentFault.TheVariants as faults
use Rattle.sdf_document.specs.declared.fault.ReadFault.{ReadFault}
use Rattle.sdf_document.specs.declared.fault.ReadFault.TheVariants as reads

-- the place of a fault
pub data Place : Type 0 where
  top : Place
  actor : ℕ → Place
  link : ℕ → Place
  file : List ℕ → Place

-- a test that fails, with its place and its key
pub data Fault : Type 0 where
  actor_count : Fault
  channel_count : Fault
  kit_value : Place → List ℕ → Fault
  not_toml : Place → Fault
  bad_format : Place → Fault
  unknown_key : Place → List ℕ → Fault
  missing_key : Place → List ℕ → Fault
  wrong_type : Place → List ℕ → Fault
  bad_name : Place → List ℕ → Fault
  name_twice : ℕ → Fault
  unknown_kind : ℕ → Fault
  bad_port : ℕ → List ℕ → Fault
  no_file : List ℕ → Fault

abbrev pub place_view : PlaceOf → Place
place_view places.Top = top
place_view (places.Actor n) = actor n
place_view (places.Link n) = link n
place_view (places.File name) = file (string_bytes name)

abbrev pub borrowed_view : BorrowedPlace → Place
borrowed_view borrowed_places.Top = top
borrowed_view (borrowed_places.Actor n) = actor n
borrowed_view (borrowed_places.Link n) = link n
borrowed_view (borrowed_places.File name) = file name.now

-- what a place prints
abbrev pub place_text : PlaceOf → List ℕ
place_text places.Top = codes "top"
place_text (places.Actor n) = codes "actor " ++ decimal n
place_text (places.Link n) = codes "link " ++ decimal n
place_text (places.File name) = codes "file " ++ string_bytes name

abbrev pub fault_view : DocumentFault → Fault
fault_view faults.ActorCount = actor_count
fault_view faults.ChannelCount = channel_count
fault_view (faults.KitValue p k) = kit_value (place_view p) k.now
fault_view (faults.NotToml p) = not_toml (place_view p)
fault_view (faults.Format p) = bad_format (place_view p)
fault_view (faults.UnknownKey p k) = unknown_key (place_view p) (string_bytes k)
fault_view (faults.MissingKey p k) = missing_key (place_view p) k.now
fault_view (faults.WrongType p k) = wrong_type (place_view p) k.now
fault_view (faults.BadName p k) = bad_name (place_view p) k.now
fault_view (faults.NameTwice n) = name_twice n
fault_view (faults.UnknownKind n) = unknown_kind n
fault_view (faults.BadPort n k) = bad_port n k.now
fault_view (faults.NoFile name) = no_file (string_bytes name)

-- the next test, if those before it passed
infixl 10 ◌>>=◌
abbrev pub ◌>>=◌ : {A B : Type 0} → Result A Fault → (A → Result B Fault) → Result B Fault
(Ok x) >>= f = f x
(Err e) >>= f = Err e

-- the value, or fault f if there is none
abbrev pub or_fault : {A : Type 0} → Fault → Option A → Result A Fault
or_fault f None = Err f
or_fault f (Some x) = Ok x

-- the definition gives this fault, unless memory was refused
abbrev pub Fails : {Y : Type 0} → ReadFault → Result Y Fault → Type 0
Fails reads.OutOfMemory read = Unit {0}
Fails (reads.Document f) read = read ≡ Err (fault_view f)

-- what a reader returned, seen by view, is what the definition gives, unless memory was refused
abbrev pub Gives : {X Y : Type 0} → (X → Y) → Result X ReadFault → Result Y Fault → Type 0
Gives view (Ok x) read = read ≡ Ok (view x)
Gives view (Err e) read = Fails e read
