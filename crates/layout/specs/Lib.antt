pub mod Layouts
