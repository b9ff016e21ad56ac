pub mod LineFits
