-- What a text is as a whole: of one image, or with one first fault; and reading and writing are inverse.
use Rattle.std.specs.Prelude.{◌≡◌, ◌⊎◌, ℕ, ◌^◌, ◌<◌, List, [], ◌∷◌, ◌++◌, length}
use Rattle.std.specs.List.{AllByRecursion}
use Rattle.flit_words.specs.declared.layouts.Layout.{Layout}
use Rattle.flit_words.specs.Layouts.{Accepted, words_of}
use Rattle.flit_image.specs.declared.faults.ImageError.{ImageError}
use Rattle.flit_image.specs.Images.{SameShape}
use Rattle.flit_image.specs.ImageTexts.{image_text, IsImageText, IsImageFault, IsSomeImageText, HasFault}

-- a text is that of images of one shape
abbrev pub OneShape : Type 0
OneShape =
    (bytes : List ℕ) (l k : Layout) (words others : List ℕ) → Accepted l → Accepted k →
    IsImageText bytes l words → IsImageText bytes k others → SameShape l k

-- a text is that of one list of words
abbrev pub OneListOfWords : Type 0
OneListOfWords =
    (bytes : List ℕ) (l k : Layout) (words others : List ℕ) → Accepted l → Accepted k →
    IsImageText bytes l words → IsImageText bytes k others → words ≡ others

-- each text is that of an image or has a first fault
abbrev pub ImageOrFault : Type 0
ImageOrFault =
    (bytes : List ℕ) → IsSomeImageText bytes ⊎ HasFault bytes

-- the text of an image has no fault
abbrev pub ImageWithoutFault : Type 0
ImageWithoutFault =
    (bytes : List ℕ) (l : Layout) (words : List ℕ) (fault : ImageError) → Accepted l →
    IsImageText bytes l words → ¬ IsImageFault bytes fault

-- a text has one first fault at most
abbrev pub OneFault : Type 0
OneFault =
    (bytes : List ℕ) (fault other : ImageError) → IsImageFault bytes fault →
    IsImageFault bytes other → fault ≡ other

-- what is written is read again
abbrev pub WrittenIsRead : Type 0
WrittenIsRead =
    (l : Layout) (words : List ℕ) → Accepted l → length words ≡ words_of l →
    AllByRecursion (λ raw. raw < 2 ^ 64) words → IsImageText (image_text l words) l words

-- a text of an image that ends with LF is written again as it is
abbrev pub ReadIsWritten : Type 0
ReadIsWritten =
    (bytes front : List ℕ) (l : Layout) (words : List ℕ) → bytes ≡ front ++ 10 ∷ [] →
    IsImageText bytes l words → bytes ≡ image_text l words
