mod Locations
mod Laying
