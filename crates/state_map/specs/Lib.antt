pub use Rattle.core_form.specs.Leaves
pub mod Views
