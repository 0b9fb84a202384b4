-- Bytes that no other bytes of their kind begin, so that what is written after them is read from where they end.
use Rattle.std.specs.Prelude.{◌≡◌, ℕ, ◌<◌, ◌^◌, List, ◌++◌, length, map, codes}
use Rattle.std.specs.List.{AllByRecursion}
use Rattle.spec_job.specs.KeyedJob.{Key}
use Rattle.spec_job.specs.SoloMachine.{Own, solo}
use Rattle.spec_script.specs.Script.{spelling}
use Rattle.spec_parcel.specs.Packed.{Placed, Told, answer_bytes, listed, own_text, parcel_bytes, placed, placed_bytes, ran_indices, script_of, sized, told, told_bytes}

-- two of a kind whose bytes begin one text are one, and so is what follows
abbrev pub AreApart : {X : Type 0} → (X → Type 0) → (X → List ℕ) → Type 0
AreApart {X} Fits bytes_of = (x y : X) (more rest : List ℕ) → Fits x → Fits y → bytes_of x ++ more ≡ bytes_of y ++ rest → (x ≡ y) × (more ≡ rest)

-- 8 bytes hold how many there are
abbrev pub IsShort : {X : Type 0} → List X → Type 0
IsShort xs = length xs < 2 ^ 64

-- a list whose elements fit, and whose length does
abbrev pub AreShort : {X : Type 0} → (X → Type 0) → List X → Type 0
AreShort Fits xs = IsShort xs × AllByRecursion Fits xs

-- the index of a node and the length of its image fit
pub record FitsPlaced (p : Placed) : Type 0 where
  pub index : p.index < 2 ^ 64
  pub image : IsShort p.image

-- the count of lines of a slice and the length of their text fit
pub record FitsTold (t : Told) : Type 0 where
  pub count : t.count < 2 ^ 64
  pub text : IsShort t.text

-- bytes after their length are apart, nodes are, and slices are
abbrev pub SizedAreApart : Type 0
SizedAreApart = AreApart IsShort sized

abbrev pub NodesAreApart : Type 0
NodesAreApart = AreApart (AreShort FitsPlaced) (listed placed_bytes)

abbrev pub SlicesAreApart : Type 0
SlicesAreApart = AreApart (AreShort FitsTold) (listed told_bytes)

-- the five sections of a parcel; the values of a model are parted by the script alone
pub record Sections : Type 0 where
  pub script : List ℕ
  pub events : List ℕ
  pub nodes : List Placed
  pub slices : List Told
  pub answers : List ℕ

-- the bytes of five sections
abbrev pub sections_bytes : Sections → List ℕ
sections_bytes s = codes "MALPACK1" ++ (sized s.script ++ (sized s.events ++ (listed placed_bytes s.nodes ++ (listed told_bytes s.slices ++ s.answers))))

-- the sections of the parcel of a job with these own events
abbrev pub sections_of : Key → List Own → Sections
sections_of k own = record {
  script = spelling (script_of k own);
  events = own_text k own;
  nodes = map (placed (solo own)) (ran_indices (solo own));
  slices = map told (solo own).slices;
  answers = listed answer_bytes (solo own).answers;
}

-- the lengths and the counts of five sections fit
pub record FitSections (s : Sections) : Type 0 where
  pub script : IsShort s.script
  pub events : IsShort s.events
  pub nodes : AreShort FitsPlaced s.nodes
  pub slices : AreShort FitsTold s.slices

-- a parcel is the bytes of its sections, and two parcels of one text have the same sections
abbrev pub HasSections : Type 0
HasSections = (k : Key) (own : List Own) → parcel_bytes k own ≡ sections_bytes (sections_of k own)

abbrev pub SectionsAreApart : Type 0
SectionsAreApart = (k l : Key) (os ps : List Own) → FitSections (sections_of k os) → FitSections (sections_of l ps)
    → parcel_bytes k os ≡ parcel_bytes l ps → sections_of k os ≡ sections_of l ps
