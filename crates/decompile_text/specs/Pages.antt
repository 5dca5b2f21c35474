-- A page with more text.
use Rattle.std.specs.Prelude.{◌≡◌, ℕ, ◌+◌, if◌then◌else◌, List, [], ◌∷◌, ◌++◌, length}
use Rattle.decompile_text.specs.declared.page.Page.{Page}

-- the page with more bytes: the size counts them, and the text has them if the page keeps its text
unfoldable pub with_text : Page → List ℕ → Page
with_text page [] = page
with_text page (byte ∷ bytes) = record page {
  text = if page.keeps_text then page.text ++ byte ∷ bytes else page.text;
  size = page.size + length (byte ∷ bytes);
}

-- a page without text
pub record IsEmptyPage (page : Page) : Type 0 where
  pub text : page.text ≡ []
  pub size : page.size ≡ 0
